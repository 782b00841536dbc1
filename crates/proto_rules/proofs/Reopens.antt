-- What reopens an entry begins one.
use Rattle.std.proofs.Common.{◌≡◌, ℕ, Bool, true, false, not, cond, refl, sym, ap, subst, ◌∙◌}
use Rattle.std.specs.Prelude.{◌&&◌, ◌||◌, IsSome}
use Rattle.tuple_core.specs.declared.Direction.{Direction}
use Rattle.tuple_core.specs.declared.Direction.TheVariants.{Original}
use Rattle.tuple_core.specs.declared.Kind.{Kind}
use Rattle.tuple_core.specs.declared.Segment.{Segment}
use Rattle.tuple_core.specs.declared.Segment.TheVariants as segment
use Rattle.proto_rules.specs.declared.Outcome.TheVariants.{Accept, Reopen, Reset, Expired}
use Rattle.proto_rules.specs.declared.Part.{Part}
use Rattle.proto_rules.specs.declared.PartKind.{PartKind}
use Rattle.proto_rules.specs.declared.PartKind.TheVariants as kind
use Rattle.proto_rules.specs.declared.TcpState.{TcpState}
use Rattle.proto_rules.specs.declared.TcpState.TheVariants.{Unset}
use Rattle.proto_rules.specs.declared.tcp_table.Cell.{Cell}
use Rattle.proto_rules.specs.declared.tcp_table.Cell.TheVariants as cell
use Rattle.proto_rules.specs.Laws.{BeginsAnew}
use Rattle.proto_rules.specs.Part.{is_expired, tcp_part}
use Rattle.proto_rules.specs.Start.{tcp_start}
use Rattle.proto_rules.specs.Step.{cell_step, is_rst, live_step, reopens, step_of}
use Rattle.proto_rules.specs.TcpTable.{original_cell, reply_cell, tcp_cell}
use Rattle.proto_rules.proofs.Cells.{each_cell_tells}

-- the cell begins an entry
abbrev begins : Cell → Bool
begins (cell.To s) = true
begins cell.Ignored = false
begins cell.Invalid = false

-- the entry that it begins
begins_some : (c : Cell) (moment : ℕ) → begins c ≡ true → IsSome (tcp_start c moment)
begins_some (cell.To s) moment h = refl
begins_some cell.Ignored moment h = cc
begins_some cell.Invalid moment h = cc

-- where a cell reopens, its kind of segment begins an entry
abbrev reopens_so : Kind → TcpState → Cell → Bool
reopens_so f old (cell.To new) = not (reopens old new) || begins (tcp_cell Original f Unset)
reopens_so f old cell.Ignored = true
reopens_so f old cell.Invalid = true

-- it is so of each cell
all_reopen_so : (d : Direction) (f : Kind) (old : TcpState) → reopens_so f old (tcp_cell d f old) ≡ true
unfolding original_cell reply_cell
all_reopen_so = each_cell_tells (λ d f old. reopens_so f old (tcp_cell d f old)) refl

-- a cell
cell_reopens : (part : Part) (d : Direction) (f : Kind) (old : TcpState) (c : Cell) (moment : ℕ)
    → tcp_cell d f old ≡ c → cell_step part d old c moment ≡ Reopen → begins (tcp_cell Original f Unset) ≡ true
cell_reopens part d f old (cell.To new) moment leads h =
    led (reopens old new) refl h
  where
    led : (b : Bool) → reopens old new ≡ b → cond b Reopen (Accept (tcp_part part d old new moment)) ≡ Reopen
        → begins (tcp_cell Original f Unset) ≡ true
    led true is h =
        let so : reopens_so f old (cell.To new) ≡ true = sym (ap (reopens_so f old) leads) ∙ all_reopen_so d f old in
        subst (λ (b : Bool). (not b || begins (tcp_cell Original f Unset)) ≡ true) is so
    led false is h = cc
cell_reopens part d f old cell.Ignored moment leads h = cc
cell_reopens part d f old cell.Invalid moment leads h = cc

-- a connection
tcp_reopens : (part : Part) (b : Bool) (d : Direction) (f : Kind) (old : TcpState) (moment : ℕ)
    → cond b Reset (cell_step part d old (tcp_cell d f old) moment) ≡ Reopen
    → begins (tcp_cell Original f Unset) ≡ true
tcp_reopens part true d f old moment h = cc
tcp_reopens part false d f old moment h = cell_reopens part d f old (tcp_cell d f old) moment refl h

-- an entry of each protocol
live_reopens : (part : Part) (d : Direction) (s : Segment) (moment : ℕ)
    (k : PartKind) → part.kind ≡ k → live_step part k d s moment ≡ Reopen → BeginsAnew part s moment
live_reopens part d (segment.Tcp f) moment (kind.Tcp old) is h =
    record {
      protocol = rw is refl;
      begins = begins_some (tcp_cell Original f Unset) moment
          (tcp_reopens part (is_rst f && not part.replied) d f old moment h);
    }
live_reopens part d segment.Udp moment (kind.Tcp old) is h = cc
live_reopens part d (segment.Icmp type) moment (kind.Tcp old) is h = cc
live_reopens part d (segment.Tcp f) moment kind.Udp is h = cc
live_reopens part d segment.Udp moment kind.Udp is h = cc
live_reopens part d (segment.Icmp type) moment kind.Udp is h = cc
live_reopens part d (segment.Tcp f) moment kind.Icmp is h = cc
live_reopens part d segment.Udp moment kind.Icmp is h = cc
live_reopens part d (segment.Icmp type) moment kind.Icmp is h = cc

-- an entry that is not expired
reopens_if : (b : Bool) (part : Part) (d : Direction) (s : Segment) (moment : ℕ)
    → cond b Expired (live_step part part.kind d s moment) ≡ Reopen → BeginsAnew part s moment
reopens_if true part d s moment h = cc
reopens_if false part d s moment h = live_reopens part d s moment part.kind refl h

-- what reopens an entry begins one
pub begins_anew : (part : Part) (d : Direction) (s : Segment) (moment : ℕ)
    → step_of part d s moment ≡ Reopen → BeginsAnew part s moment
begins_anew part d s moment h = reopens_if (is_expired part moment) part d s moment h
