-- What begins and what goes on.
use Rattle.std.proofs.Common.{◌≡◌, ℕ, ◌+◌, ◌<◌, Bool, true, false, not, nat_lt, cond, refl, sym, ap, subst, ◌∙◌, Some, None, arith, lit<}
use Rattle.std.specs.Prelude.{◌&&◌}
use Rattle.std.proofs.lemmas.Bool.{ltb-true}
use Rattle.tuple_core.specs.declared.Direction.{Direction}
use Rattle.tuple_core.specs.declared.Direction.TheVariants.{Original, Reply}
use Rattle.tuple_core.specs.declared.Kind.{Kind}
use Rattle.tuple_core.specs.declared.Segment.{Segment}
use Rattle.tuple_core.specs.declared.Segment.TheVariants as segment
use Rattle.proto_rules.specs.declared.Outcome.TheVariants.{Accept, Reopen, Reset, Expired}
use Rattle.proto_rules.specs.declared.Part.{Part}
use Rattle.proto_rules.specs.declared.PartKind.{PartKind}
use Rattle.proto_rules.specs.declared.PartKind.TheVariants as kind
use Rattle.proto_rules.specs.declared.TcpState.{TcpState}
use Rattle.proto_rules.specs.declared.TcpState.TheVariants.{Unset, Established}
use Rattle.proto_rules.specs.declared.tcp_table.Cell.{Cell}
use Rattle.proto_rules.specs.declared.tcp_table.Cell.TheVariants as cell
use Rattle.proto_rules.specs.Laws.{GoesOn, IsFresh}
use Rattle.proto_rules.specs.Part.{icmp_part, is_expired, replied_after, tcp_lifetime, tcp_part, udp_assured, udp_part}
use Rattle.proto_rules.specs.Protocol.{is_of_protocol, proto_of}
use Rattle.proto_rules.specs.Start.{begun, start_of, tcp_start}
use Rattle.proto_rules.specs.Step.{cell_step, is_rst, live_step, reopens, step_of}
use Rattle.proto_rules.specs.TcpTable.{original_cell, reply_cell, same_state, tcp_cell}
use Rattle.proto_rules.specs.Timeout.{seconds, tcp_timeout, udp_timeout}
use Rattle.proto_rules.proofs.Cells.{each_cell_tells}

-- a cell leads to no state whose entries end at once
abbrev lasts : Cell → Bool
lasts (cell.To s) = nat_lt 0 (tcp_timeout s)
lasts cell.Ignored = true
lasts cell.Invalid = true

-- each new state lasts
new_lasts : (d : Direction) (k : Kind) (s : TcpState) → lasts (tcp_cell d k s) ≡ true
unfolding original_cell reply_cell
new_lasts = each_cell_tells (λ d k s. lasts (tcp_cell d k s)) refl

-- a connection lives on in each new state
lifetime_lasts : (replied b : Bool) (s : TcpState) → 0 < tcp_timeout s
    → 0 < (cond (b && not replied) 300 (tcp_timeout s))
lifetime_lasts replied false s h = h
lifetime_lasts true true s h = h
lifetime_lasts false true s h = lit< tt

-- a deadline after a positive time is above the moment
later : (moment n : ℕ) → 0 < n → moment < moment + seconds n
later moment n h = omega (arith, h)

-- so is that of a connection
tcp_later : (replied : Bool) (d : Direction) (k : Kind) (old new : TcpState) (moment : ℕ) → tcp_cell d k old ≡ cell.To new
    → moment < moment + seconds (tcp_lifetime replied new)
tcp_later replied d k old new moment leads =
    let long : 0 < tcp_timeout new = ltb-true 0 (tcp_timeout new) (sym (ap lasts leads) ∙ new_lasts d k old) in
    later moment (tcp_lifetime replied new) (lifetime_lasts replied (same_state new Established) new long)

-- and that of a flow of UDP
udp_later : (replied : Bool) (moment : ℕ) → moment < moment + seconds (udp_timeout replied)
udp_later true moment = later moment 120 (lit< tt)
udp_later false moment = later moment 30 (lit< tt)

-- an entry of TCP begins fresh
tcp_fresh : (k : Kind) (c : Cell) (moment : ℕ) (part : Part) → tcp_cell Original k Unset ≡ c
    → tcp_start c moment ≡ Some part → IsFresh (segment.Tcp k) moment part
tcp_fresh k (cell.To s) moment part leads h =
    let e : begun (kind.Tcp s) (tcp_lifetime false s) moment ≡ part = cc in
    subst (λ (p : Part). IsFresh (segment.Tcp k) moment p) e
    (record { protocol = refl; unanswered = refl; unassured = refl; lives = tcp_later false Original k Unset s moment leads })
tcp_fresh k cell.Ignored moment part leads h = cc
tcp_fresh k cell.Invalid moment part leads h = cc

-- an entry of ICMP begins fresh
icmp_fresh : (type : ℕ) (asks : Bool) (moment : ℕ) (part : Part)
    → cond asks (Some (begun kind.Icmp 30 moment)) None ≡ Some part → IsFresh (segment.Icmp type) moment part
icmp_fresh type true moment part h =
    let e : begun kind.Icmp 30 moment ≡ part = cc in
    subst (λ (p : Part). IsFresh (segment.Icmp type) moment p) e
    (record { protocol = refl; unanswered = refl; unassured = refl; lives = later moment 30 (lit< tt) })
icmp_fresh type false moment part h = cc

-- each entry begins fresh
pub begins_fresh : (s : Segment) (moment : ℕ) (part : Part) → start_of s moment ≡ Some part → IsFresh s moment part
begins_fresh (segment.Tcp k) moment part h = tcp_fresh k (tcp_cell Original k Unset) moment part refl h
begins_fresh segment.Udp moment part h =
    let e : begun kind.Udp (udp_timeout false) moment ≡ part = cc in
    subst (λ (p : Part). IsFresh segment.Udp moment p) e
    (record { protocol = refl; unanswered = refl; unassured = refl; lives = udp_later false moment })
begins_fresh (segment.Icmp type) moment part h = icmp_fresh type _ moment part h

-- what a packet that is accepted leaves, by the kind of the part
record Leaves (before : Part) (k : PartKind) (d : Direction) (s : Segment) (moment : ℕ) (after : Part) : Type 0 where
  protocol : is_of_protocol s k ≡ true
  same : proto_of after.kind ≡ proto_of k
  replied : after.replied ≡ replied_after before d
  assured : before.assured ≡ true → after.assured ≡ true
  lives : moment < after.deadline

-- a connection that a cell leads on
cell_leaves : (before : Part) (d : Direction) (f : Kind) (old : TcpState) (c : Cell) (moment : ℕ) (after : Part)
    → tcp_cell d f old ≡ c → cell_step before d old c moment ≡ Accept after
    → Leaves before (kind.Tcp old) d (segment.Tcp f) moment after
cell_leaves before d f old (cell.To new) moment after leads h =
    led (reopens old new) h
  where
    led : (b : Bool) → cond b Reopen (Accept (tcp_part before d old new moment)) ≡ Accept after
        → Leaves before (kind.Tcp old) d (segment.Tcp f) moment after
    led true h = cc
    led false h =
        let e : tcp_part before d old new moment ≡ after = cc in
        subst (λ (p : Part). Leaves before (kind.Tcp old) d (segment.Tcp f) moment p) e
        (record {
          protocol = refl;
          same = refl;
          replied = refl;
          assured = λ a. rw a refl;
          lives = tcp_later before.replied d f old new moment leads;
        })
cell_leaves before d f old cell.Ignored moment after leads h = cc
cell_leaves before d f old cell.Invalid moment after leads h = cc

-- a connection
tcp_leaves : (before : Part) (b : Bool) (d : Direction) (f : Kind) (old : TcpState) (moment : ℕ) (after : Part)
    → cond b Reset (cell_step before d old (tcp_cell d f old) moment) ≡ Accept after
    → Leaves before (kind.Tcp old) d (segment.Tcp f) moment after
tcp_leaves before true d f old moment after h = cc
tcp_leaves before false d f old moment after h = cell_leaves before d f old (tcp_cell d f old) moment after refl h

-- a flow of UDP that is assured stays so
udp_stays : (before : Part) (d : Direction) → before.assured ≡ true → udp_assured before d ≡ true
udp_stays before Original a = rw a refl
udp_stays before Reply a = a

-- an entry of each protocol
live_leaves : (before : Part) (k : PartKind) (d : Direction) (s : Segment) (moment : ℕ) (after : Part)
    → live_step before k d s moment ≡ Accept after → Leaves before k d s moment after
live_leaves before (kind.Tcp old) d (segment.Tcp f) moment after h =
    tcp_leaves before (is_rst f && not before.replied) d f old moment after h
live_leaves before (kind.Tcp old) d segment.Udp moment after h = cc
live_leaves before (kind.Tcp old) d (segment.Icmp type) moment after h = cc
live_leaves before kind.Udp d (segment.Tcp f) moment after h = cc
live_leaves before kind.Udp d segment.Udp moment after h =
    let e : udp_part before d moment ≡ after = cc in
    subst (λ (p : Part). Leaves before kind.Udp d segment.Udp moment p) e
    (record {
      protocol = refl;
      same = refl;
      replied = refl;
      assured = udp_stays before d;
      lives = udp_later (replied_after before d) moment;
    })
live_leaves before kind.Udp d (segment.Icmp type) moment after h = cc
live_leaves before kind.Icmp d (segment.Tcp f) moment after h = cc
live_leaves before kind.Icmp d segment.Udp moment after h = cc
live_leaves before kind.Icmp d (segment.Icmp type) moment after h =
    let e : icmp_part before d moment ≡ after = cc in
    subst (λ (p : Part). Leaves before kind.Icmp d (segment.Icmp type) moment p) e
    (record { protocol = refl; same = refl; replied = refl; assured = λ a. a; lives = later moment 30 (lit< tt) })

-- an entry that is not expired
goes_on_if : (b : Bool) (before : Part) (d : Direction) (s : Segment) (moment : ℕ) (after : Part) → is_expired before moment ≡ b
    → cond b Expired (live_step before before.kind d s moment) ≡ Accept after → GoesOn before d s moment after
goes_on_if true before d s moment after is h = cc
goes_on_if false before d s moment after is h =
    let l = live_leaves before before.kind d s moment after h in
    record { live = is; protocol = l.protocol; same = l.same; replied = l.replied; assured = l.assured; lives = l.lives }

-- each accepted packet leaves an entry that goes on
pub goes_on : (before : Part) (d : Direction) (s : Segment) (moment : ℕ) (after : Part)
    → step_of before d s moment ≡ Accept after → GoesOn before d s moment after
goes_on before d s moment after h = goes_on_if (is_expired before moment) before d s moment after refl h
