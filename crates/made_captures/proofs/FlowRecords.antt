-- The records of one flow, and a capture that grows by them.
use Rattle.std.proofs.Common.{◌≡◌, ℕ, ◌+◌, ◌-◌, ◌*◌, ◌/◌, ◌%◌, ◌<◌, ◌≤◌, min, List, [], ◌∷◌, ◌++◌, map, refl, sym, ◌∙◌, arith, append_assoc}
use Rattle.std.proofs.lemmas.List.{append-nil}
use Rattle.std.proofs.lemmas.List.FromFn.{map-range_with_len_more}
use Rattle.std.proofs.lemmas.List.Folds.{concat-append}
use Rattle.std.specs.List.{concat, range_with_len}
use Rattle.tuple_core.specs.declared.Direction.{Direction}
use Rattle.tuple_core.specs.declared.Proto.{Proto}
use Rattle.tuple_core.specs.declared.Tuple.{Tuple}
use Rattle.made_captures.specs.declared.record.Moment.{Moment}
use Rattle.made_captures.specs.MadePacket.{client_number, client_of, directed, first_tuple, flow_of, laid_out, made_direction, made_proto, step_of}
use Rattle.made_captures.specs.MadeCapture.{made_capture, made_record}
use Rattle.made_captures.specs.Internal.FlowRecords.{first_moment, flow_records, later, recorded}
use Rattle.made_captures.proofs.Records.{capture_split}

-- a packet is laid out as its protocol says
pub packet_is : (proto kind : Proto) (direction : Direction) (step : ℕ) (first t : Tuple)
    → proto ≡ kind → direction ≡ made_direction proto step → t ≡ directed direction first
    → laid_out kind t step ≡ laid_out proto (directed (made_direction proto step) first) step
packet_is proto kind direction step first t e f g =
    (λ i. laid_out (sym e i) (g i) step) ∙ (λ i. laid_out proto (directed (f i) first) step)

-- its record is the made one
pub record_made : (seed thread flow step : ℕ) (proto : Proto) (first : Tuple) (moment : Moment)
    → step < 4 → proto ≡ made_proto seed flow → first ≡ first_tuple proto (client_of thread flow) (client_number seed)
    → moment ≡ later (first_moment flow) step
    → recorded moment (laid_out proto (directed (made_direction proto step) first) step) ≡ made_record seed thread (flow * 4 + step)
unfolding made_record
record_made seed thread flow step proto first moment below p t m =
    let f : flow ≡ flow_of (flow * 4 + step) = omega arith in
    let s : step ≡ step_of (flow * 4 + step) = omega arith in
    let seconds : 1000 + flow / 250 ≡ 1000 + (flow * 4 + step) / 1000 = omega arith in
    let micros : flow % 250 * 4000 + step * 1000 ≡ (flow * 4 + step) % 1000 * 1000 = omega arith in
    (λ i. recorded (m i) (laid_out proto (directed (made_direction proto step) (t i)) step))
    ∙ (λ i. recorded (later (first_moment flow) step)
    (laid_out (p i) (directed (made_direction (p i) step) (first_tuple (p i) (client_of thread flow) (client_number seed))) step))
    ∙ (λ i. recorded (record { seconds = seconds i; micros = micros i })
    (laid_out (made_proto seed (f i)) (directed (made_direction (made_proto seed (f i)) (s i))
    (first_tuple (made_proto seed (f i)) (client_of thread (f i)) (client_number seed))) (s i)))

-- one record more of a flow
pub flow_more : (seed thread flow step : ℕ) (before now new more : List ℕ)
    → now ≡ before ++ flow_records seed thread flow step → new ≡ now ++ more → more ≡ made_record seed thread (flow * 4 + step)
    → new ≡ before ++ flow_records seed thread flow (step + 1)
flow_more seed thread flow step before now new more e f g =
    let made = made_record seed thread in
    let so_far : List ℕ = flow_records seed thread flow step in
    f ∙ (λ i. e i ++ g i) ∙ append_assoc before so_far (made (flow * 4 + step))
    ∙ (λ i. before ++ (so_far ++ sym (append-nil (made (flow * 4 + step))) i))
    ∙ (λ i. before ++ sym (concat-append (map made (range_with_len (flow * 4) step)) (made (flow * 4 + step) ∷ [])) i)
    ∙ (λ i. before ++ concat (sym (map-range_with_len_more made (flow * 4) step (flow * 4 + step) refl) i))

-- one flow more of a capture
pub capture_flow : (seed packets thread flow count : ℕ) (now new : List ℕ) → flow * 4 ≤ packets → count ≡ min (packets - flow * 4) 4
    → now ≡ made_capture seed (min (flow * 4) packets) thread → new ≡ now ++ flow_records seed thread flow count
    → new ≡ made_capture seed (min ((flow + 1) * 4) packets) thread
capture_flow seed packets thread flow count now new within e f g =
    let here : min (flow * 4) packets ≡ flow * 4 = omega arith in
    let next : flow * 4 + count ≡ min ((flow + 1) * 4) packets = omega (arith, e) in
    g ∙ (λ i. (f ∙ (λ j. made_capture seed (here j) thread)) i ++ flow_records seed thread flow count)
    ∙ sym (capture_split seed thread (flow * 4) count) ∙ (λ i. made_capture seed (next i) thread)
