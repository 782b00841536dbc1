use Rattle.std.proofs.Common.{◌≡◌, ◌≢◌, ℕ, ◌%◌, ◌<◌, ◌≤◌, List, get_or, ap, arith, subst, sym, ◌∙◌, Some}
use Rattle.history_book.specs.declared.sizes.Sizes.{Sizes}
use Rattle.tuple_core.specs.Words.{address_word, flow_word}
use Rattle.track_rule.specs.Layout.{gen_word}
use Rattle.track_rule.specs.Sights.{sizes_of}
use Rattle.track_rule.specs.declared.view.View.{View}
use Rattle.bucket_table.specs.Following.{IsBegun, IsLink, SearchLong, SearchSays, bucket_in, direction_of}
use Rattle.bucket_table.specs.declared.lookup.Goal.{Goal}
use Rattle.bucket_table.proofs.Following.{begun_from, end_says, found_some, link_is, long_moved}
use Rattle.bucket_table.proofs.lookup.follow.Goals as goal

half : (n : ℕ) → n % 2 ≢ 1 → n % 2 ≡ 0
half n other = omega (arith, other)

pub returns-then-link-eq0 : goal.returns-then-link-eq0
returns-then-link-eq0 c =
    let g : Goal = record {
      bucket = c.bucket_of-bucket.result;
      generation = c.gen_load-generation.result;
      first = get_or c.words.result 0 0;
      second = get_or c.words.result 1 0;
    } in
    let bucket : c.bucket_of-bucket.result ≡ bucket_in (sizes_of c.args.pass.now) c.args.t.now =
    c.bucket_of-bucket.ensures.exact ∙ ap (λ (z : Sizes). bucket_in z c.args.t.now) c.sizes-sizes.ensures.sizes in
    let first : get_or c.words.result 0 0 ≡ address_word c.args.t.now = ap (λ (xs : List ℕ). get_or xs 0 0) c.words.ensures in
    let second : get_or c.words.result 1 0 ≡ flow_word c.args.t.now = ap (λ (xs : List ℕ). get_or xs 1 0) c.words.ensures in
    let even : c.gen_load-generation.result % 2 ≡ 0 = half c.gen_load-generation.result c.if-generation-eq1.false in
    let begun : IsBegun g c.args.pass.now c.search.new.pass =
    begun_from g c.sizes-sizes.result c.head_word.result c.link_load-head.result c.args.pass.now c.gen_load-generation.new.self c.link_load-head.new.self
    c.search.new.pass c.sizes-sizes.ensures.sizes c.head_word.ensures.word c.gen_load-generation.ensures.loads c.gen_load-generation.ensures.kept
    c.link_load-head.ensures.loads c.link_load-head.ensures.kept c.in-Some.ensures.walks in
    let same : sizes_of c.link_load-head.new.self ≡ sizes_of c.args.pass.now = ap sizes_of c.link_load-head.ensures.kept ∙ ap (λ (x : View). x.passes.sizes) c.link_load-head.ensures.loads.view
    ∙ ap sizes_of c.gen_load-generation.ensures.kept ∙ ap (λ (x : View). x.passes.sizes) c.gen_load-generation.ensures.loads.view in
    let some : 1 ≤ (sizes_of c.args.pass.now).passes = subst (λ (z : Sizes). 1 ≤ z.passes) c.sizes-sizes.ensures.sizes c.sizes-sizes.ensures.limits.some_passes in
    end_says c.args.t.now g c.end.result c.gen_word-word.result c.args.pass.now c.search.new.pass c.end.new.pass bucket
    (subst (λ (z : Sizes). c.bucket_of-bucket.result < z.buckets) c.sizes-sizes.ensures.sizes c.bucket_of-bucket.ensures.below)
    (c.gen_word-word.ensures ∙ ap (λ (z : Sizes). gen_word z c.bucket_of-bucket.result) c.sizes-sizes.ensures.sizes) first second even c.requires some begun
    (subst (λ (n : ℕ). SearchSays (Some n) g (sizes_of c.args.pass.now) c.search.new.pass.view) c.if-link-eq0.true
    (subst (λ z. SearchSays (Some c.in-Some.link) g z c.search.new.pass.view) same c.in-Some.ensures.says)) c.end.ensures

pub returns-else-link-eq0 : goal.returns-else-link-eq0
returns-else-link-eq0 c =
    let g : Goal = record {
      bucket = c.bucket_of-bucket.result;
      generation = c.gen_load-generation.result;
      first = get_or c.words.result 0 0;
      second = get_or c.words.result 1 0;
    } in
    let bucket : c.bucket_of-bucket.result ≡ bucket_in (sizes_of c.args.pass.now) c.args.t.now =
    c.bucket_of-bucket.ensures.exact ∙ ap (λ (z : Sizes). bucket_in z c.args.t.now) c.sizes-sizes.ensures.sizes in
    let first : get_or c.words.result 0 0 ≡ address_word c.args.t.now = ap (λ (xs : List ℕ). get_or xs 0 0) c.words.ensures in
    let second : get_or c.words.result 1 0 ≡ flow_word c.args.t.now = ap (λ (xs : List ℕ). get_or xs 1 0) c.words.ensures in
    let even : c.gen_load-generation.result % 2 ≡ 0 = half c.gen_load-generation.result c.if-generation-eq1.false in
    let begun : IsBegun g c.args.pass.now c.search.new.pass =
    begun_from g c.sizes-sizes.result c.head_word.result c.link_load-head.result c.args.pass.now c.gen_load-generation.new.self c.link_load-head.new.self
    c.search.new.pass c.sizes-sizes.ensures.sizes c.head_word.ensures.word c.gen_load-generation.ensures.loads c.gen_load-generation.ensures.kept
    c.link_load-head.ensures.loads c.link_load-head.ensures.kept c.in-Some.ensures.walks in
    let same : sizes_of c.link_load-head.new.self ≡ sizes_of c.args.pass.now = ap sizes_of c.link_load-head.ensures.kept ∙ ap (λ (x : View). x.passes.sizes) c.link_load-head.ensures.loads.view
    ∙ ap sizes_of c.gen_load-generation.ensures.kept ∙ ap (λ (x : View). x.passes.sizes) c.gen_load-generation.ensures.loads.view in
    let says : SearchSays (Some c.in-Some.link) g (sizes_of c.args.pass.now) c.search.new.pass.view =
    subst (λ z. SearchSays (Some c.in-Some.link) g z c.search.new.pass.view) same c.in-Some.ensures.says in
    let there = link_is c.args.t.now g c.in-Some.link c.args.pass.now c.search.new.pass bucket
    (subst (λ (z : Sizes). c.bucket_of-bucket.result < z.buckets) c.sizes-sizes.ensures.sizes c.bucket_of-bucket.ensures.below) first second even begun (found_some g c.in-Some.link (sizes_of c.args.pass.now) c.search.new.pass c.if-link-eq0.false says) in
    subst (λ d. IsLink c.args.t.now c.place_of.result d c.gen_load-generation.result c.args.pass.now c.search.new.pass) (sym c.direction_of.ensures)
    (subst (λ (p : ℕ). IsLink c.args.t.now p (direction_of c.in-Some.link) c.gen_load-generation.result c.args.pass.now c.search.new.pass) (sym c.place_of.ensures) there)

pub returns-in-None : goal.returns-in-None
returns-in-None c =
    let g : Goal = record {
      bucket = c.bucket_of-bucket.result;
      generation = c.gen_load-generation.result;
      first = get_or c.words.result 0 0;
      second = get_or c.words.result 1 0;
    } in
    let bucket : c.bucket_of-bucket.result ≡ bucket_in (sizes_of c.args.pass.now) c.args.t.now =
    c.bucket_of-bucket.ensures.exact ∙ ap (λ (z : Sizes). bucket_in z c.args.t.now) c.sizes-sizes.ensures.sizes in
    let even : c.gen_load-generation.result % 2 ≡ 0 = half c.gen_load-generation.result c.if-generation-eq1.false in
    let begun : IsBegun g c.args.pass.now c.search.new.pass =
    begun_from g c.sizes-sizes.result c.head_word.result c.link_load-head.result c.args.pass.now c.gen_load-generation.new.self c.link_load-head.new.self
    c.search.new.pass c.sizes-sizes.ensures.sizes c.head_word.ensures.word c.gen_load-generation.ensures.loads c.gen_load-generation.ensures.kept
    c.link_load-head.ensures.loads c.link_load-head.ensures.kept c.in-None.ensures.walks in
    let same : sizes_of c.link_load-head.new.self ≡ sizes_of c.args.pass.now = ap sizes_of c.link_load-head.ensures.kept ∙ ap (λ (x : View). x.passes.sizes) c.link_load-head.ensures.loads.view
    ∙ ap sizes_of c.gen_load-generation.ensures.kept ∙ ap (λ (x : View). x.passes.sizes) c.gen_load-generation.ensures.loads.view in
    let some : 1 ≤ (sizes_of c.args.pass.now).passes = subst (λ (z : Sizes). 1 ≤ z.passes) c.sizes-sizes.ensures.sizes c.sizes-sizes.ensures.limits.some_passes in
    long_moved c.args.t.now g c.gen_word-word.result c.gen_load.result c.args.pass.now c.search.new.pass c.gen_load.new.self bucket
    (subst (λ (z : Sizes). c.bucket_of-bucket.result < z.buckets) c.sizes-sizes.ensures.sizes c.bucket_of-bucket.ensures.below)
    (c.gen_word-word.ensures ∙ ap (λ (z : Sizes). gen_word z c.bucket_of-bucket.result) c.sizes-sizes.ensures.sizes) c.requires even some begun
    (subst (λ z. SearchLong g z c.search.new.pass.view) same c.in-None.ensures.says) c.gen_load.ensures.loads c.gen_load.ensures.kept
