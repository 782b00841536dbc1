-- A step of a later moment, reckoned at an earlier one.
use Rattle.std.proofs.Common.{◌≡◌, ℕ, ◌+◌, ◌-◌, ◌≤◌, Bool, true, false, cond, refl, sym, ap, ◌∙◌, arith, ⊎_elim}
use Rattle.std.specs.Prelude.{◌<◌, ◌&&◌, nat_le, not}
use Rattle.std.proofs.lemmas.Bool.Decides.{leb_tells}
use Rattle.tuple_core.specs.declared.Direction.{Direction}
use Rattle.tuple_core.specs.declared.Segment.{Segment}
use Rattle.tuple_core.specs.declared.Segment.TheVariants as segment
use Rattle.proto_rules.specs.declared.Outcome.{Outcome}
use Rattle.proto_rules.specs.declared.Outcome.TheVariants.{Accept, Reopen, Reset, Expired}
use Rattle.proto_rules.specs.declared.Part.{Part}
use Rattle.proto_rules.specs.declared.PartKind.{PartKind}
use Rattle.proto_rules.specs.declared.PartKind.TheVariants as kind
use Rattle.proto_rules.specs.declared.TcpState.{TcpState}
use Rattle.proto_rules.specs.declared.tcp_table.Cell.{Cell}
use Rattle.proto_rules.specs.declared.tcp_table.Cell.TheVariants as cell
use Rattle.proto_rules.specs.Part.{icmp_part, replied_after, tcp_lifetime, tcp_part, udp_part}
use Rattle.proto_rules.specs.Step.{cell_step, is_rst, live_step, reopens, step_of}
use Rattle.proto_rules.specs.TcpTable.{tcp_cell}
use Rattle.proto_rules.specs.Timeout.{icmp_timeout, seconds, udp_timeout}
use Rattle.history_book.specs.Internal.Late.{later}

-- a deadline that is reckoned from a moment is later by so much where the moment is
moved : (by m t : ℕ) → m + t + by ≡ m + by + t
moved by m t = omega arith

-- a choice of two outcomes, each of which comes later
either : (b : Bool) (o p q : Outcome) (by : ℕ) → later by o ≡ o → later by p ≡ q → later by (cond b o p) ≡ cond b o q
either true o p q by same e = same
either false o p q by same e = e

cell_later : (part : Part) (direction : Direction) (old : TcpState) (c : Cell) (by m : ℕ)
    → later by (cell_step part direction old c m) ≡ cell_step part direction old c (m + by)
cell_later part direction old cell.Invalid by m = refl
cell_later part direction old cell.Ignored by m = refl
cell_later part direction old (cell.To new) by m =
    either (reopens old new) Reopen (Accept (tcp_part part direction old new m))
    (Accept (tcp_part part direction old new (m + by))) by refl
    (ap (λ d. Accept (record (tcp_part part direction old new m) { deadline = d }))
    (moved by m (seconds (tcp_lifetime part.replied new))))

live_later : (part : Part) (k : PartKind) (direction : Direction) (s : Segment) (by m : ℕ)
    → later by (live_step part k direction s m) ≡ live_step part k direction s (m + by)
live_later part (kind.Tcp state) direction (segment.Tcp tcp_kind) by m =
    either (is_rst tcp_kind && not part.replied) Reset
    (cell_step part direction state (tcp_cell direction tcp_kind state) m)
    (cell_step part direction state (tcp_cell direction tcp_kind state) (m + by)) by refl
    (cell_later part direction state (tcp_cell direction tcp_kind state) by m)
live_later part (kind.Tcp state) direction segment.Udp by m = refl
live_later part (kind.Tcp state) direction (segment.Icmp type) by m = refl
live_later part kind.Udp direction (segment.Tcp tcp_kind) by m = refl
live_later part kind.Udp direction segment.Udp by m =
    ap (λ d. Accept (record (udp_part part direction m) { deadline = d }))
    (moved by m (seconds (udp_timeout (replied_after part direction))))
live_later part kind.Udp direction (segment.Icmp type) by m = refl
live_later part kind.Icmp direction (segment.Tcp tcp_kind) by m = refl
live_later part kind.Icmp direction segment.Udp by m = refl
live_later part kind.Icmp direction (segment.Icmp type) by m =
    ap (λ d. Accept (record (icmp_part part direction m) { deadline = d })) (moved by m (seconds icmp_timeout))

not_le : (a b : ℕ) → b < a → nat_le a b ≡ false
not_le a b lt =
    ⊎_elim (λ (t : (nat_le a b ≡ true) × (a ≤ b)). absurd (omega (arith, lt, t.1)))
    (λ (t : (nat_le a b ≡ false) × (b < a)). t.0) (leb_tells a b)

-- an entry that is not expired at a moment is stepped as at an earlier one, and lives on for as much longer
pub step-later : (part : Part) (direction : Direction) (s : Segment) (m by : ℕ) → by ≤ m → m < part.deadline
    → later by (step_of part direction s (m - by)) ≡ step_of part direction s m
step-later part direction s m by le live =
    let early : nat_le part.deadline (m - by) ≡ false = not_le part.deadline (m - by) (omega arith) in
    let here : nat_le part.deadline m ≡ false = not_le part.deadline m live in
    let back : m - by + by ≡ m = omega arith in
    ap (λ b. later by (cond b Expired (live_step part part.kind direction s (m - by)))) early
    ∙ live_later part part.kind direction s by (m - by)
    ∙ ap (live_step part part.kind direction s) back
    ∙ sym (ap (λ b. cond b Expired (live_step part part.kind direction s m)) here)
