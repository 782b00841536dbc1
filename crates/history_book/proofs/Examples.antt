-- The definitions read against worked histories: of one flow of UDP, in which 10.0.0.1:5000 asks
-- 10.0.0.2:53; of one connection, from 10.0.0.1:5000 to 10.0.0.2:80; and of a control connection of FTP, from
-- 10.0.0.1:5000 to 10.0.0.2:21, with its data connection in active mode.
use Rattle.std.proofs.Common.{◌≡◌, ℕ, ◌+◌, ◌*◌, Bool, true, false, Option, None, Some, List, [], ◌∷◌, ◌++◌, length, refl}
use Rattle.expect_table.specs.declared.expectation.Expectation.{Expectation}
use Rattle.tuple_core.specs.declared.Direction.{Direction}
use Rattle.tuple_core.specs.declared.Direction.TheVariants.{Original, Reply}
use Rattle.tuple_core.specs.declared.Kind.{Kind}
use Rattle.tuple_core.specs.declared.Kind.TheVariants.{Syn, SynAck, Fin, Ack, Rst}
use Rattle.tuple_core.specs.declared.Proto.TheVariants as proto
use Rattle.tuple_core.specs.declared.Segment.TheVariants as segment
use Rattle.tuple_core.specs.declared.Tuple.{Tuple}
use Rattle.history_book.specs.declared.check.Checked.TheVariants.{Legal, Broken}
use Rattle.history_book.specs.declared.event.Event.{Event}
use Rattle.history_book.specs.declared.event.Event.TheVariants.{Confirm, Touch, Destroy, Expect, Claim, Unexpect}
use Rattle.history_book.specs.declared.event.Numbered.{Numbered}
use Rattle.history_book.specs.declared.event.Why.TheVariants.{Expired, Reopened, Reset, Flushed}
use Rattle.proto_rules.specs.declared.Part.{Part}
use Rattle.proto_rules.specs.declared.PartKind.TheVariants as kind
use Rattle.proto_rules.specs.declared.TcpState.{TcpState}
use Rattle.proto_rules.specs.declared.TcpState.TheVariants.{SynSent, SynRecv, Established, FinWait, LastAck, TimeWait, Close}
use Rattle.proto_rules.specs.TcpTable.{original_cell, reply_cell}
use Rattle.history_book.specs.declared.sizes.Sizes.{Sizes}
use Rattle.history_book.specs.Checked.{CountsLive, IsBrokenAt, IsLegalHistory, NamesFirstBroken, sizes_with}
use Rattle.history_book.specs.History.{after, is_legal}
use Rattle.history_book.proofs.Checking.{none_broken}

-- the sizes of a tracker with 65,536 places
abbrev sizes : Sizes
sizes = record { entries = 65536; buckets = 16384; seed = 1; passes = 1; expectations = 1024 }

-- the tuple of a query from this port, and that of the answer to port 5000
abbrev query : ℕ → Tuple
query port = record { proto = proto.Udp; zone = 0; src = 167772161; dst = 167772162; a = port; b = 53 }

abbrev answer : Tuple
answer = record { proto = proto.Udp; zone = 0; src = 167772162; dst = 167772161; a = 53; b = 5000 }

abbrev part : Bool → ℕ → Part
part replied deadline = record { kind = kind.Udp; replied = replied; assured = false; deadline = deadline }

-- the entry of a query begins, with this id, place, port and deadline
abbrev begins : ℕ → ℕ → ℕ → ℕ → Event
begins id place port deadline = Confirm (record {
  id = id;
  place = place;
  original = query port;
  reply = answer;
  part = part false deadline;
  helper = false;
  master = None;
})

-- the query at 1000 s, and the answer at 1000.5 s, which sets this deadline
abbrev asked : Event
asked = begins 0 0 5000 1030000000

abbrev answered : ℕ → Event
answered deadline = Touch 0 Reply segment.Udp 1000500000 (part true deadline)

-- a flow begins at 1 s, its entry ends as expired at this moment, and the flow begins anew
abbrev begun_anew : ℕ → List Event
begun_anew moment = begins 0 0 5000 31000000 ∷ Destroy 0 (Expired moment) ∷ begins 2 0 5000 61000000 ∷ []

a_query_and_its_answer : is_legal sizes (asked ∷ answered 1120500000 ∷ []) ≡ true
unfolding is_legal
a_query_and_its_answer = refl

an_answer_keeps_the_deadline : is_legal sizes (asked ∷ answered 1030000000 ∷ []) ≡ false
unfolding is_legal
an_answer_keeps_the_deadline = refl

an_answer_comes_first : is_legal sizes (answered 1120500000 ∷ []) ≡ false
unfolding is_legal
an_answer_comes_first = refl

a_flow_begins_twice : is_legal sizes (asked ∷ begins 1 1 5000 1030000000 ∷ []) ≡ false
unfolding is_legal
a_flow_begins_twice = refl

a_reply_tuple_is_taken : is_legal sizes (asked ∷ begins 1 1 5001 1030000000 ∷ []) ≡ false
unfolding is_legal
a_reply_tuple_is_taken = refl

an_expired_flow_begins_anew : is_legal sizes (begun_anew 31000000) ≡ true
unfolding is_legal
an_expired_flow_begins_anew = refl

an_entry_ends_before_its_deadline : is_legal sizes (begun_anew 30999999) ≡ false
unfolding is_legal
an_entry_ends_before_its_deadline = refl

none_is_live_before_the_query : length (after (asked ∷ answered 1120500000 ∷ []) 0).records ≡ 0
unfolding after
none_is_live_before_the_query = refl

one_is_live_after_the_query : length (after (asked ∷ answered 1120500000 ∷ []) 1).records ≡ 1
unfolding after
one_is_live_after_the_query = refl

one_is_live_after_the_answer : length (after (asked ∷ answered 1120500000 ∷ []) 2).records ≡ 1
unfolding after
one_is_live_after_the_answer = refl

one_is_live_until_it_expires : length (after (begun_anew 31000000) 1).records ≡ 1
unfolding after
one_is_live_until_it_expires = refl

none_is_live_once_it_expired : length (after (begun_anew 31000000) 2).records ≡ 0
unfolding after
none_is_live_once_it_expired = refl

one_is_live_anew : length (after (begun_anew 31000000) 3).records ≡ 1
unfolding after
one_is_live_anew = refl

-- the part of the connection in this state, which lives until this second
abbrev stands : TcpState → Bool → Bool → ℕ → Part
stands state replied assured second =
    record { kind = kind.Tcp state; replied = replied; assured = assured; deadline = second * 1000000 }

-- the connection begins at this second by a SYN, with this id
abbrev opens : ℕ → ℕ → Event
opens id second = Confirm (record {
  id = id;
  place = 0;
  original = record { proto = proto.Tcp; zone = 0; src = 167772161; dst = 167772162; a = 5000; b = 80 };
  reply = record { proto = proto.Tcp; zone = 0; src = 167772162; dst = 167772161; a = 80; b = 5000 };
  part = stands SynSent false false (second + 120);
  helper = false;
  master = None;
})

-- a segment of the connection at this second leaves this part
abbrev passes : Direction → Kind → ℕ → Part → Event
passes direction k second after = Touch 0 direction (segment.Tcp k) (second * 1000000) after

-- a segment at this second resets the connection, or reopens it
abbrev resets : Kind → ℕ → Event
resets k second = Destroy 0 (Reset (segment.Tcp k) (second * 1000000))

abbrev reopens : Direction → Kind → ℕ → Event
reopens direction k second = Destroy 0 (Reopened direction (segment.Tcp k) (second * 1000000))

-- it begins at 1 s and is answered at 2 s
abbrev opened : List Event
opened = opens 0 1 ∷ passes Reply SynAck 2 (stands SynRecv true false 62) ∷ []

-- it is established at 3 s, and both ends close it, the last at 6 s
abbrev closed : List Event
closed =
    opened
    ++ passes Original Ack 3 (stands Established true true 432003)
    ∷ passes Original Fin 4 (stands FinWait true true 124)
    ∷ passes Reply Fin 5 (stands LastAck true true 35)
    ∷ passes Original Ack 6 (stands TimeWait true true 126)
    ∷ []

a_connection_is_reset_before_a_reply : is_legal sizes (opens 0 1 ∷ resets Rst 2 ∷ opens 2 3 ∷ []) ≡ true
unfolding is_legal original_cell reply_cell
a_connection_is_reset_before_a_reply = refl

an_rst_before_a_reply_passes :
    is_legal sizes (opens 0 1 ∷ passes Reply Rst 2 (stands Close true false 12) ∷ []) ≡ false
unfolding is_legal original_cell reply_cell
an_rst_before_a_reply_passes = refl

an_answered_connection_is_reset : is_legal sizes (opened ++ resets Rst 3 ∷ []) ≡ false
unfolding is_legal original_cell reply_cell
an_answered_connection_is_reset = refl

an_answered_connection_is_closed_by_an_rst :
    is_legal sizes (opened ++ passes Reply Rst 3 (stands Close true false 13) ∷ []) ≡ true
unfolding is_legal original_cell reply_cell
an_answered_connection_is_closed_by_an_rst = refl

none_is_live_once_it_was_reset : length (after (opens 0 1 ∷ resets Rst 2 ∷ []) 2).records ≡ 0
unfolding after
none_is_live_once_it_was_reset = refl

a_closed_connection_is_reopened : is_legal sizes (closed ++ reopens Original Syn 7 ∷ opens 7 7 ∷ []) ≡ true
unfolding is_legal original_cell reply_cell
a_closed_connection_is_reopened = refl

a_closed_connection_is_reopened_from_the_other_end : is_legal sizes (closed ++ reopens Reply Syn 7 ∷ []) ≡ true
unfolding is_legal original_cell reply_cell
a_closed_connection_is_reopened_from_the_other_end = refl

a_syn_touches_a_closed_connection :
    is_legal sizes (closed ++ passes Original Syn 7 (stands SynSent true true 127) ∷ []) ≡ false
unfolding is_legal original_cell reply_cell
a_syn_touches_a_closed_connection = refl

an_open_connection_is_reopened : is_legal sizes (opened ++ reopens Original Syn 3 ∷ []) ≡ false
unfolding is_legal original_cell reply_cell
an_open_connection_is_reopened = refl

an_expired_connection_is_reopened : is_legal sizes (closed ++ reopens Original Syn 126 ∷ []) ≡ false
unfolding is_legal original_cell reply_cell
an_expired_connection_is_reopened = refl

-- the control connection begins at 1 s, and its entry has the helper or not
abbrev controls : Bool → Event
controls helper = Confirm (record {
  id = 0;
  place = 0;
  original = record { proto = proto.Tcp; zone = 0; src = 167772161; dst = 167772162; a = 5000; b = 21 };
  reply = record { proto = proto.Tcp; zone = 0; src = 167772162; dst = 167772161; a = 21; b = 5000 };
  part = stands SynSent false false 121;
  helper = helper;
  master = None;
})

-- what it expects from this second on: the data connection to this port, with this id
abbrev wanted : ℕ → ℕ → ℕ → Expectation
wanted id port second = record {
  id = id;
  master = 0;
  want = record { src = 167772162; dst = 167772161; port = port };
  zone = 0;
  deadline = (second + 300) * 1000000;
}

-- it expects that from this second on, in place of this older expectation
abbrev expects : ℕ → ℕ → Option ℕ → ℕ → Event
expects id port older second = Expect (wanted id port second) older (second * 1000000)

-- the tuples of the data connection to this port
abbrev data_tuple : ℕ → Tuple
data_tuple port = record { proto = proto.Tcp; zone = 0; src = 167772162; dst = 167772161; a = 20; b = port }

abbrev data_reply : ℕ → Tuple
data_reply port = record { proto = proto.Tcp; zone = 0; src = 167772161; dst = 167772162; a = port; b = 20 }

-- the data connection to this port meets the expectation of this id at this second
abbrev claims : ℕ → ℕ → ℕ → Event
claims id port second = Claim id 0 (data_tuple port) (second * 1000000)

-- the data connection to this port begins at this second, with this id
abbrev arrives : ℕ → ℕ → ℕ → Event
arrives id port second = Confirm (record {
  id = id;
  place = 1;
  original = data_tuple port;
  reply = data_reply port;
  part = stands SynSent false false (second + 120);
  helper = false;
  master = Some 0;
})

-- what is expected from 2 s on is met at this second
abbrev claimed_at : ℕ → List Event
claimed_at second = controls true ∷ expects 1 40001 None 2 ∷ claims 1 40001 second ∷ []

-- what is expected from 2 s on is replaced at 3 s, by an event that names this older expectation
abbrev replaced_as : Option ℕ → List Event
replaced_as older = controls true ∷ expects 1 40001 None 2 ∷ expects 2 40002 older 3 ∷ []

-- what is expected from 2 s on ends unmet at this second
abbrev unmet_at : ℕ → List Event
unmet_at second = controls true ∷ expects 1 40001 None 2 ∷ Unexpect 1 (second * 1000000) ∷ []

-- the control connection is reset while it expects something
abbrev reset_control : List Event
reset_control = controls true ∷ expects 1 40001 None 2 ∷ resets Rst 3 ∷ []

a_data_connection_arrives : is_legal sizes (claimed_at 3 ++ arrives 3 40001 3 ∷ []) ≡ true
unfolding is_legal
a_data_connection_arrives = refl

a_claim_before_the_deadline : is_legal sizes (claimed_at 301) ≡ true
unfolding is_legal
a_claim_before_the_deadline = refl

a_claim_at_the_deadline : is_legal sizes (claimed_at 302) ≡ false
unfolding is_legal
a_claim_at_the_deadline = refl

an_expectation_is_claimed_twice : is_legal sizes (claimed_at 3 ++ claims 1 40001 4 ∷ []) ≡ false
unfolding is_legal
an_expectation_is_claimed_twice = refl

an_expectation_without_the_helper : is_legal sizes (controls false ∷ expects 1 40001 None 2 ∷ []) ≡ false
unfolding is_legal
an_expectation_without_the_helper = refl

an_expectation_is_replaced : is_legal sizes (replaced_as (Some 1) ++ claims 2 40002 4 ∷ []) ≡ true
unfolding is_legal
an_expectation_is_replaced = refl

an_expectation_is_replaced_in_silence : is_legal sizes (replaced_as None) ≡ false
unfolding is_legal
an_expectation_is_replaced_in_silence = refl

a_replaced_expectation_is_claimed : is_legal sizes (replaced_as (Some 1) ++ claims 1 40001 4 ∷ []) ≡ false
unfolding is_legal
a_replaced_expectation_is_claimed = refl

an_expectation_ends_at_its_deadline : is_legal sizes (unmet_at 302) ≡ true
unfolding is_legal
an_expectation_ends_at_its_deadline = refl

an_expectation_ends_before_its_deadline : is_legal sizes (unmet_at 301) ≡ false
unfolding is_legal
an_expectation_ends_before_its_deadline = refl

a_control_connection_is_reset : is_legal sizes reset_control ≡ true
unfolding is_legal original_cell reply_cell
a_control_connection_is_reset = refl

a_reset_control_connection_expects : is_legal sizes (reset_control ++ claims 1 40001 4 ∷ []) ≡ false
unfolding is_legal original_cell reply_cell
a_reset_control_connection_expects = refl

one_is_expected_while_the_master_lives : length (after reset_control 2).expects ≡ 1
unfolding after
one_is_expected_while_the_master_lives = refl

none_is_expected_once_the_master_ended : length (after reset_control 3).expects ≡ 0
unfolding after
none_is_expected_once_the_master_ended = refl

one_is_expected_once_one_was_replaced : length (after (replaced_as (Some 1)) 3).expects ≡ 1
unfolding after
one_is_expected_once_one_was_replaced = refl

none_is_expected_once_it_was_claimed : length (after (claimed_at 3) 3).expects ≡ 0
unfolding after
none_is_expected_once_it_was_claimed = refl

none_is_expected_once_it_ended_unmet : length (after (unmet_at 302) 3).expects ≡ 0
unfolding after
none_is_expected_once_it_ended_unmet = refl

-- the events of one thread, numbered from this number on
abbrev listed : ℕ → List Event → List Numbered
listed n [] = []
listed n (e ∷ es) = record { number = n; thread = 0; index = 0; event = e } ∷ listed (n + 1) es

-- the query and its answer, which names the entry of this id
abbrev query_and_answer : ℕ → List Numbered
query_and_answer id = listed 0 (asked ∷ Touch id Reply segment.Udp 1000500000 (part true 1120500000) ∷ [])

-- the entry is flushed, and then the answer comes
abbrev touched_once_gone : List Numbered
touched_once_gone = listed 0 (asked ∷ Destroy 0 Flushed ∷ answered 1120500000 ∷ [])

-- an entry that lives on past the moments of a capture is touched then
abbrev touched_late : ℕ → List Numbered
touched_late deadline =
    listed 0 (begins 0 0 5000 30000000000000000 ∷ Touch 0 Reply segment.Udp 20000000000000000 (part true deadline) ∷ [])

a_checked_history_is_legal : IsLegalHistory (sizes_with 65536 1024) (query_and_answer 0)
unfolding is_legal
a_checked_history_is_legal = record { numbers = (refl, (refl, tt)); events = refl }

a_checked_history_leaves_one_live : CountsLive (query_and_answer 0) (Legal 1)
unfolding after
a_checked_history_leaves_one_live = refl

a_touch_of_no_entry_is_the_first_broken : NamesFirstBroken (sizes_with 65536 1024) (query_and_answer 5) (Broken 1)
unfolding is_legal after
a_touch_of_no_entry_is_the_first_broken = record {
  here = record { item = _; stands = refl; broken = refl };
  before = λ k low. none_broken (sizes_with 65536 1024) (query_and_answer 5) 1 k
      (record { numbers = (refl, tt); events = refl }) low;
}

a_number_that_is_not_the_index_is_broken : IsBrokenAt (sizes_with 65536 1024) (listed 1 (asked ∷ [])) 0
unfolding after
a_number_that_is_not_the_index_is_broken = record { item = _; stands = refl; broken = refl }

a_touch_of_a_gone_entry_is_broken : IsBrokenAt (sizes_with 65536 1024) touched_once_gone 2
unfolding after
a_touch_of_a_gone_entry_is_broken = record { item = _; stands = refl; broken = refl }

none_is_live_once_it_was_flushed : CountsLive (listed 0 (asked ∷ Destroy 0 Flushed ∷ [])) (Legal 0)
unfolding after
none_is_live_once_it_was_flushed = refl

a_late_touch_is_legal : IsLegalHistory (sizes_with 65536 1024) (touched_late 20000000120000000)
unfolding is_legal
a_late_touch_is_legal = record { numbers = (refl, (refl, tt)); events = refl }

a_late_touch_keeps_the_deadline : IsBrokenAt (sizes_with 65536 1024) (touched_late 30000000000000000) 1
unfolding after
a_late_touch_keeps_the_deadline = record { item = _; stands = refl; broken = refl }
