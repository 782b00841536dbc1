-- What the verdicts are that fit a frame which makes no event.
use Rattle.std.proofs.Common.{◌≡◌, ℕ, List, [], ap, refl, sym, ◌∙◌}
use Rattle.tuple_core.specs.declared.Tuple.{Tuple}
use Rattle.history_book.specs.declared.event.Event.{Event}
use Rattle.history_book.specs.declared.event.Note.{Note}
use Rattle.history_book.specs.declared.sizes.Sizes.{Sizes}
use Rattle.history_book.specs.declared.verdict.Class.{Class}
use Rattle.history_book.specs.declared.verdict.Class.TheVariants as class
use Rattle.history_book.specs.declared.verdict.UntrackedWhy.{UntrackedWhy}
use Rattle.history_book.specs.declared.verdict.UntrackedWhy.TheVariants as why
use Rattle.packet_headers.specs.declared.packet.Packet.TheVariants as packet
use Rattle.packet_path.specs.Packet.{Given, cause_of}
use Rattle.packet_path.specs.declared.setup.Setup.{Setup}
use Rattle.packet_path.specs.Verdict.{FitsFrame}

same_why : (v w : UntrackedWhy) → packet.Untracked (cause_of v) ≡ packet.Untracked (cause_of w) → v ≡ w
same_why why.Link why.Link e = refl
same_why why.Link why.Fragment e = cc
same_why why.Link why.Protocol e = cc
same_why why.Fragment why.Link e = cc
same_why why.Fragment why.Fragment e = refl
same_why why.Fragment why.Protocol e = cc
same_why why.Protocol why.Link e = cc
same_why why.Protocol why.Fragment e = cc
same_why why.Protocol why.Protocol e = refl

module _ (setup : Setup) (sizes : Sizes) (log : List Event) (mark : ℕ) (given : Given) where
  pub untracked_only : (own : List Note) (answer : Class) (why : UntrackedWhy) → given.packet ≡ packet.Untracked (cause_of why)
      → FitsFrame setup sizes log mark given own answer → (own ≡ []) × (answer ≡ class.Untracked why)
  untracked_only own (class.Untracked w) why is f = (f.1, ap class.Untracked (same_why w why (sym f.0 ∙ is)))
  untracked_only own class.BadHeader why is f = let e = f.0 in cc
  untracked_only own (class.ErrorLost at) why is f = let e = f.error in cc
  untracked_only own (class.ErrorAddress id at) why is f = let e = f.error in cc
  untracked_only own (class.Error direction id at) why is f = let e = f.error in cc
  untracked_only own (class.NoEntry at) why is f = let e = f.flow.headers in cc
  untracked_only own (class.BadState id at) why is f = let e = f.flow.headers in cc
  untracked_only own (class.Made id at translated unclaimed) why is f = let e = f.flow.headers in cc
  untracked_only own (class.Passed label id at ftp) why is f = let e = f.flow.headers in cc
  untracked_only own (class.Ignored id at) why is f = let e = f.flow.headers in cc
  untracked_only own (class.Merged id at translated) why is f = let e = f.flow.headers in cc
  untracked_only own (class.Clash id at translated) why is f = let e = f.flow.headers in cc
  untracked_only own (class.NoPort from to) why is f = let e = f.flow.headers in cc
  untracked_only own (class.Full from at) why is f = let e = f.flow.headers in cc
  untracked_only own (class.Contended id at) why is f = let e = f.stands.flow.headers in cc

  pub invalid_only : (own : List Note) (answer : Class) → given.packet ≡ packet.Invalid
      → FitsFrame setup sizes log mark given own answer → (own ≡ []) × (answer ≡ class.BadHeader)
  invalid_only own (class.Untracked w) is f = let e = f.0 in cc
  invalid_only own class.BadHeader is f = (f.1, refl)
  invalid_only own (class.ErrorLost at) is f = let e = f.error in cc
  invalid_only own (class.ErrorAddress id at) is f = let e = f.error in cc
  invalid_only own (class.Error direction id at) is f = let e = f.error in cc
  invalid_only own (class.NoEntry at) is f = let e = f.flow.headers in cc
  invalid_only own (class.BadState id at) is f = let e = f.flow.headers in cc
  invalid_only own (class.Made id at translated unclaimed) is f = let e = f.flow.headers in cc
  invalid_only own (class.Passed label id at ftp) is f = let e = f.flow.headers in cc
  invalid_only own (class.Ignored id at) is f = let e = f.flow.headers in cc
  invalid_only own (class.Merged id at translated) is f = let e = f.flow.headers in cc
  invalid_only own (class.Clash id at translated) is f = let e = f.flow.headers in cc
  invalid_only own (class.NoPort from to) is f = let e = f.flow.headers in cc
  invalid_only own (class.Full from at) is f = let e = f.flow.headers in cc
  invalid_only own (class.Contended id at) is f = let e = f.stands.flow.headers in cc

  pub error_silent : (inner : Tuple) (outer : ℕ) (own : List Note) (answer : Class) → given.packet ≡ packet.Error inner outer
      → FitsFrame setup sizes log mark given own answer → own ≡ []
  error_silent inner outer own (class.Untracked w) is f = let e = f.0 in cc
  error_silent inner outer own class.BadHeader is f = let e = f.0 in cc
  error_silent inner outer own (class.ErrorLost at) is f = f.none
  error_silent inner outer own (class.ErrorAddress id at) is f = f.none
  error_silent inner outer own (class.Error direction id at) is f = f.none
  error_silent inner outer own (class.NoEntry at) is f = let e = f.flow.headers in cc
  error_silent inner outer own (class.BadState id at) is f = let e = f.flow.headers in cc
  error_silent inner outer own (class.Made id at translated unclaimed) is f = let e = f.flow.headers in cc
  error_silent inner outer own (class.Passed label id at ftp) is f = let e = f.flow.headers in cc
  error_silent inner outer own (class.Ignored id at) is f = let e = f.flow.headers in cc
  error_silent inner outer own (class.Merged id at translated) is f = let e = f.flow.headers in cc
  error_silent inner outer own (class.Clash id at translated) is f = let e = f.flow.headers in cc
  error_silent inner outer own (class.NoPort from to) is f = let e = f.flow.headers in cc
  error_silent inner outer own (class.Full from at) is f = let e = f.flow.headers in cc
  error_silent inner outer own (class.Contended id at) is f = let e = f.stands.flow.headers in cc
