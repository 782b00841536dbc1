-- The rival in the locked chains is the live entry that stands in the flow's way.
use Rattle.std.proofs.Common.{◌≡◌, ℕ, suc, ◌+◌, ◌-◌, ◌<◌, Bool, false, Option, Some, None, List, [], ◌∷◌, length, refl, sym, ap, subst, ◌∙◌, arith}
use Rattle.std.specs.Prelude.{◌&&◌, if◌then◌else◌}
use Rattle.std.proofs.lemmas.Bool.{or_parts}
use Rattle.history_book.specs.Desk.{IsClash}
use Rattle.history_book.specs.Record.{has_original, has_reply}
use Rattle.history_book.specs.State.{Found, first_found, live_under, winner}
use Rattle.history_book.specs.declared.event.Event.{Event}
use Rattle.history_book.specs.declared.record.Flow.{Flow}
use Rattle.history_book.specs.declared.record.Record.{Record}
use Rattle.history_book.specs.declared.sizes.Sizes.{Sizes}
use Rattle.tuple_core.specs.Words.{address_word, flow_word}
use Rattle.tuple_core.specs.declared.Direction.{Direction}
use Rattle.tuple_core.specs.declared.Direction.TheVariants.{Original, Reply}
use Rattle.tuple_core.specs.declared.Tuple.{Tuple}
use Rattle.track_rule.specs.BucketSteps.{IsChainOf, IsLinkIn, IsShutAt}
use Rattle.track_rule.specs.Chains.{chain_in, chain_link, shuts_of, side}
use Rattle.track_rule.specs.History.{events_in, records_after, state_after}
use Rattle.track_rule.specs.Layout.{place_of}
use Rattle.track_rule.specs.PhaseSteps.{LoadsPhase, holds_open}
use Rattle.track_rule.specs.Sights.{PassSight, sizes_of}
use Rattle.track_rule.specs.Steps.{AreAll, Looks}
use Rattle.track_rule.specs.Sums.{Each, total}
use Rattle.track_rule.specs.Walks.{rev_onto}
use Rattle.track_rule.specs.declared.view.ChainLink.{ChainLink}
use Rattle.track_rule.specs.declared.view.Hook.{Hook}
use Rattle.track_rule.specs.declared.view.View.{View}
use Rattle.bucket_table.specs.Following.{bucket_in}
use Rattle.bucket_table.specs.LockedChain.{link_with, place_in}
use Rattle.shared_desk.specs.Commit.{is_any_up}
use Rattle.shared_desk.specs.Rival.{Blocks, IsBlocked, chain_of, found_for, has_both, rival_of}
use Rattle.shared_desk.specs.declared.rival.Rival.{Rival}
use Rattle.shared_desk.proofs.Entering.{valid_original, valid_reply}
use Rattle.shared_desk.proofs.Members.{IsIn}
use Rattle.shared_desk.proofs.Naming.{AreLinked}
use Rattle.shared_desk.proofs.Under.{not_original, reply_is, under, under_none, unused_place}
use Rattle.shared_desk.specs.TupleLaws.{TuplesTellEntries}

-- nothing is loose where no hook is up
pub none_loose : (z : Sizes) (b : ℕ) (w : ChainLink → ℕ) (hooks : List Hook) → is_any_up hooks ≡ false
    → total (λ (h : Hook). (if h.up then side z b w (chain_link h) else 0)) hooks ≡ 0
none_loose z b w [] e = refl
none_loose z b w (h ∷ hs) e =
    let parts = or_parts h.up (is_any_up hs) e in
    omega (arith, none_loose z b w hs parts.1, ap (λ (k : Bool). if k then side z b w (chain_link h) else 0) parts.0)

each_rest : (F : ChainLink → Type 0) (passed rest : List ChainLink) → Each F (rev_onto passed rest) → Each F rest
each_rest F [] rest h = h
each_rest F (p ∷ ps) rest h = λ i x at. each_rest F ps (p ∷ rest) h (suc i) x at

-- the entry that stands in the way, and where its link stands
pub record IsTheRival (flow : Flow) (rival : Rival) (log : List Event) (v : View) : Type 0 where
  pub subject : Record
  pub bucket : ℕ
  pub below : bucket < v.passes.sizes.buckets
  pub passed : List ChainLink
  pub entry : ChainLink
  pub rest : List ChainLink
  pub at : IsShutAt bucket v passed (entry ∷ rest)
  pub named : entry.id ≡ Some subject.id
  pub placed : place_of entry.link ≡ rival.place
  pub low : rival.place < v.passes.sizes.entries
  pub wins : winner flow.original flow.reply (state_after log) ≡ Some (record { subject = subject; direction = rival.direction })
  pub both : rival.both ≡ (has_original flow.original subject && has_reply flow.reply subject)

module _ (flow : Flow) (place : ℕ) (rival : Rival) (v : PassSight) (word : ℕ) (u : PassSight) (blocked : IsBlocked place flow rival v) (looks : Looks v.view word u.view)
    (laws : TuplesTellEntries) where
  linked : (t : Tuple) → bucket_in (sizes_of v) t < (sizes_of v).buckets → 0 < shuts_of (bucket_in (sizes_of v) t) v.view → AreLinked (sizes_of v) t (chain_of (sizes_of v) t v.view.buckets.shut) (records_after u.view.seen.front)
  linked t below shut weight =
      omega (
        arith,
        looks.chains (bucket_in (sizes_of v) t) below shut weight,
        none_loose (sizes_of v) (bucket_in (sizes_of v) t) weight v.view.buckets.hooks blocked.down,
      )

  low_place : (t : Tuple) (passed rest : List ChainLink) (e : ChainLink) (p : ℕ) → IsChainOf (sizes_of v) (bucket_in (sizes_of v) t) (chain_of (sizes_of v) t v.view.buckets.shut)
      → chain_of (sizes_of v) t v.view.buckets.shut ≡ rev_onto passed (e ∷ rest) → place_of e.link ≡ p → p < (sizes_of v).entries
  low_place t passed rest e p right all at =
      let entry : IsLinkIn (sizes_of v) (bucket_in (sizes_of v) t) e =
      each_rest (IsLinkIn (sizes_of v) (bucket_in (sizes_of v) t)) passed (e ∷ rest) (subst (Each (IsLinkIn (sizes_of v) (bucket_in (sizes_of v) t))) all right.each) 0 e refl in
      omega (arith, entry.some, entry.below, at)

  by_found : (o : Option (ℕ × Direction)) (q : Option (ℕ × Direction)) → found_for (sizes_of v) flow.original v.view.buckets.shut ≡ o → found_for (sizes_of v) flow.reply v.view.buckets.shut ≡ q
      → rival_of o (place_in (link_with 1 (address_word flow.reply) (flow_word flow.reply) (chain_of (sizes_of v) flow.reply v.view.buckets.shut))) q ≡ Some rival
      → IsTheRival flow rival u.view.seen.front v.view
  by_found (Some (p, d)) q e f g =
      let same : record { place = p; direction = d; both = has_both d (place_in (link_with 1 (address_word flow.reply) (flow_word flow.reply) (chain_of (sizes_of v) flow.reply v.view.buckets.shut))) p } ≡ rival = cc in
      let on = under (sizes_of v) u.view.seen.front looks.all.legal laws flow.original (chain_of (sizes_of v) flow.original v.view.buckets.shut) (linked flow.original blocked.original_below blocked.original_shut)
      (valid_original flow blocked.protocol) p d e in
      record {
        subject = on.subject;
        bucket = bucket_in (sizes_of v) flow.original;
        below = blocked.original_below;
        passed = on.passed;
        entry = on.entry;
        rest = on.rest;
        at = record { mine = blocked.original_shut; all = on.all };
        named = on.named;
        placed = on.at ∙ ap (λ (r : Rival). r.place) same;
        low = low_place flow.original on.passed on.rest on.entry rival.place blocked.original_chain on.all (on.at ∙ ap (λ (r : Rival). r.place) same);
        wins = ap (λ (k : Option Found). first_found k (live_under flow.reply (state_after u.view.seen.front))) on.live
            ∙ ap (λ (r : Rival). Some (record { subject = on.subject; direction = r.direction })) same;
        both = ap (λ (r : Rival). r.both) (sym same) ∙ by_way d refl on.subject on.there on.placed on.original;
      }
    where
      by_way : (k : Direction) → d ≡ k → (r : Record) → IsIn r (records_after u.view.seen.front) → r.place ≡ p → (d ≡ Original → r.original ≡ flow.original)
          → has_both d (place_in (link_with 1 (address_word flow.reply) (flow_word flow.reply) (chain_of (sizes_of v) flow.reply v.view.buckets.shut))) p
          ≡ (has_original flow.original r && has_reply flow.reply r)
      by_way Original k r there placed original =
          ap (λ (x : Direction). has_both x (place_in (link_with 1 (address_word flow.reply) (flow_word flow.reply) (chain_of (sizes_of v) flow.reply v.view.buckets.shut))) p) k
          ∙ reply_is (sizes_of v) u.view.seen.front looks.all.legal laws flow.reply (chain_of (sizes_of v) flow.reply v.view.buckets.shut) (linked flow.reply blocked.reply_below blocked.reply_shut)
          (valid_reply flow blocked.protocol) p r there placed
          ∙ ap (λ (b : Bool). b && has_reply flow.reply r) (sym ((laws.same r.original flow.original).1 (original k)))
      by_way Reply k r there placed original =
          ap (λ (x : Direction). has_both x (place_in (link_with 1 (address_word flow.reply) (flow_word flow.reply) (chain_of (sizes_of v) flow.reply v.view.buckets.shut))) p) k
          ∙ ap (λ (b : Bool). b && has_reply flow.reply r)
          (sym (not_original (sizes_of v) u.view.seen.front looks.all.legal laws flow.original (chain_of (sizes_of v) flow.original v.view.buckets.shut) (linked flow.original blocked.original_below blocked.original_shut)
          (valid_original flow blocked.protocol) p r there (e ∙ ap (λ (x : Direction). Some (p, x)) k)))
  by_found None (Some (p, d)) e f g =
      let same : record { place = p; direction = d; both = false } ≡ rival = cc in
      let on = under (sizes_of v) u.view.seen.front looks.all.legal laws flow.reply (chain_of (sizes_of v) flow.reply v.view.buckets.shut) (linked flow.reply blocked.reply_below blocked.reply_shut)
      (valid_reply flow blocked.protocol) p d f in
      let away = under_none (sizes_of v) u.view.seen.front looks.all.legal laws flow.original (chain_of (sizes_of v) flow.original v.view.buckets.shut) (linked flow.original blocked.original_below blocked.original_shut)
      (valid_original flow blocked.protocol) e in
      record {
        subject = on.subject;
        bucket = bucket_in (sizes_of v) flow.reply;
        below = blocked.reply_below;
        passed = on.passed;
        entry = on.entry;
        rest = on.rest;
        at = record { mine = blocked.reply_shut; all = on.all };
        named = on.named;
        placed = on.at ∙ ap (λ (r : Rival). r.place) same;
        low = low_place flow.reply on.passed on.rest on.entry rival.place blocked.reply_chain on.all (on.at ∙ ap (λ (r : Rival). r.place) same);
        wins = ap (λ (k : Option Found). first_found k (live_under flow.reply (state_after u.view.seen.front))) away.0
            ∙ on.live ∙ ap (λ (r : Rival). Some (record { subject = on.subject; direction = r.direction })) same;
        both = ap (λ (r : Rival). r.both) (sym same) ∙ ap (λ (b : Bool). b && has_reply flow.reply on.subject) (sym (away.1 on.subject on.there));
      }
  by_found None None e f g = cc

  pub the_rival : IsTheRival flow rival u.view.seen.front v.view
  the_rival = by_found (found_for (sizes_of v) flow.original v.view.buckets.shut) (found_for (sizes_of v) flow.reply v.view.buckets.shut) refl refl blocked.finds

-- its phase
pub rival_phase : (flow : Flow) (place n : ℕ) (rival : Rival) (log : List Event) (v u w : PassSight) → IsBlocked place flow rival v → (r : IsTheRival flow rival log v.view)
    → (word : ℕ) → Looks v.view word u.view → LoadsPhase rival.place u.view n w.view → n ≡ 3 + r.subject.id
rival_phase flow place n rival log v u w blocked r word looks loads =
    loads.linked r.bucket r.passed r.entry r.rest r.subject.id
    (subst (λ (k : View). r.bucket < k.passes.sizes.buckets) (sym looks.same) r.below)
    (record {
      mine = subst (λ (k : View). 0 < shuts_of r.bucket k) (sym looks.same) r.at.mine;
      all = ap (λ (k : View). chain_in r.bucket k.buckets.shut) looks.same ∙ r.at.all;
    })
    (ap (λ (k : View). k.commit.middle) looks.same ∙ blocked.calm) r.named r.placed

-- the answer
pub blocks : (flow : Flow) (place n word at : ℕ) (rival : Rival) (v u w : PassSight) → IsBlocked place flow rival v → (r : IsTheRival flow rival u.view.seen.front v.view) → TuplesTellEntries
    → Looks v.view word u.view → u ≡ record v { view = u.view } → LoadsPhase rival.place u.view n w.view → w ≡ record u { view = w.view } → at ≡ events_in word
    → Blocks place flow (n - 3) rival.direction rival.both at v w
blocks flow place n word at rival v u w blocked r laws looks kept loads kept' at_is =
    let front : w.view.seen.front ≡ u.view.seen.front = ap (λ (k : View). k.seen.front) loads.view in
    let id : r.subject.id ≡ n - 3 = omega (arith, rival_phase flow place n rival u.view.seen.front v u w blocked r word looks loads) in
    let view : w.view ≡ record v.view {
      seen = record v.view.seen { front = u.view.seen.front };
      walk = w.view.walk;
      readings = w.view.readings;
    } = loads.settled (ap (λ (k : View). holds_open k.places.held) looks.same ∙ blocked.closed)
    ∙ (λ i. record (looks.same i) { walk = w.view.walk; readings = w.view.readings }) in
    record {
      same = kept' ∙ ap (λ (k : PassSight). record k { view = w.view }) kept
          ∙ ap (λ (k : View). record v { view = k }) (view ∙ (λ i. record v.view {
            seen = record v.view.seen { front = sym front i };
            walk = w.view.walk;
            readings = w.view.readings;
          }));
      all = subst (λ (l : List Event). AreAll v.view l) (sym front) looks.all;
      point = at_is ∙ looks.events ∙ ap (λ (l : List Event). length l) (sym front);
      clash = subst (λ (l : List Event). IsClash place flow (n - 3) rival.direction rival.both (state_after l)) (sym front) (record {
        winner = record {
          found = record { subject = r.subject; direction = rival.direction };
          wins = r.wins;
          named = id;
          directed = refl;
          same = r.both;
        };
        unused = unused_place (sizes_of v) u.view.seen.front looks.all.legal laws place (looks.held.taken place blocked.taken);
      });
    }
