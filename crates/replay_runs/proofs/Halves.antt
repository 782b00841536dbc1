-- The threads of several captures, divided and put together.
use Rattle.std.proofs.Common.{◌≡◌, ℕ, zero, suc, List, [], ◌∷◌, ◌++◌, take, drop, subst, ap, ◌∙◌}
use Rattle.std.specs.List.{AllByRecursion, AllZip}
use Rattle.std.proofs.lemmas.List.{take-append-drop}
use Rattle.history_book.specs.Sight.{Sight}
use Rattle.packet_path.specs.declared.setup.Setup.{Setup}
use Rattle.packet_headers.specs.declared.frame.Capture.{Capture}
use Rattle.replay_runs.specs.declared.jobs.Job.{Job}
use Rattle.replay_runs.specs.Internal.Jobs.{AllRan}
use Rattle.replay_runs.proofs.Each.{each_dropped, each_taken}

-- what holds of two lists place by place holds of their first items
pub zip_taken : {A B : Type 0} (R : A → B → Type 0) (n : ℕ) (xs : List A) (ys : List B) → AllZip R xs ys → AllZip R (take n xs) (take n ys)
zip_taken R zero xs ys all = tt
zip_taken R (suc n) [] [] all = tt
zip_taken R (suc n) [] (y ∷ ys) all = absurd all
zip_taken R (suc n) (x ∷ xs) [] all = absurd all
zip_taken R (suc n) (x ∷ xs) (y ∷ ys) (here, all) = (here, zip_taken R n xs ys all)

-- and of the others
pub zip_dropped : {A B : Type 0} (R : A → B → Type 0) (n : ℕ) (xs : List A) (ys : List B) → AllZip R xs ys → AllZip R (drop n xs) (drop n ys)
zip_dropped R zero xs ys all = all
zip_dropped R (suc n) [] [] all = tt
zip_dropped R (suc n) [] (y ∷ ys) all = absurd all
zip_dropped R (suc n) (x ∷ xs) [] all = absurd all
zip_dropped R (suc n) (x ∷ xs) (y ∷ ys) (here, all) = zip_dropped R n xs ys all

-- the threads of two lists of captures ran
pub ran_append : {D : Type 0} (sight : D → Sight) (setup : Setup) (cs ds : List Capture) (os ps ns ms : List (Job D))
    → AllRan sight setup cs os ns → AllRan sight setup ds ps ms → AllRan sight setup (cs ++ ds) (os ++ ps) (ns ++ ms)
ran_append sight setup [] ds [] ps [] ms first then = then
ran_append sight setup [] ds [] ps (n ∷ ns) ms first then = absurd first
ran_append sight setup [] ds (o ∷ os) ps ns ms first then = absurd first
ran_append sight setup (c ∷ cs) ds [] ps ns ms first then = absurd first
ran_append sight setup (c ∷ cs) ds (o ∷ os) ps [] ms first then = absurd first
ran_append sight setup (c ∷ cs) ds (o ∷ os) ps (n ∷ ns) ms (here, first) then = (here, ran_append sight setup cs ds os ps ns ms first then)

-- the threads of the two parts of a list of captures ran
pub halves_ran : {D : Type 0} (sight : D → Sight) (setup : Setup) (n : ℕ) (captures front back : List Capture) (jobs left right : List (Job D))
    (ns ms : List (Job D)) → front ≡ take n captures → back ≡ drop n captures → left ≡ take n jobs → right ≡ drop n jobs
    → AllRan sight setup front left ns → AllRan sight setup back right ms → AllRan sight setup captures jobs (ns ++ ms)
halves_ran sight setup n captures front back jobs left right ns ms fronts backs lefts rights first then =
    subst (λ cs. AllRan sight setup cs jobs (ns ++ ms)) (ap (λ cs. cs ++ back) fronts ∙ ap (λ cs. take n captures ++ cs) backs ∙ take-append-drop n captures)
    (subst (λ os. AllRan sight setup (front ++ back) os (ns ++ ms)) (ap (λ os. os ++ right) lefts ∙ ap (λ os. take n jobs ++ os) rights ∙ take-append-drop n jobs)
    (ran_append sight setup front back left right ns ms first then))

-- the first items of two lists, and the others
pub zip_front : {A B : Type 0} (R : A → B → Type 0) (n : ℕ) (xs fs : List A) (ys gs : List B) → AllZip R xs ys
    → fs ≡ take n xs → gs ≡ take n ys → AllZip R fs gs
zip_front R n xs fs ys gs all is this = rw (is, this) (zip_taken R n xs ys all)

pub zip_back : {A B : Type 0} (R : A → B → Type 0) (n : ℕ) (xs fs : List A) (ys gs : List B) → AllZip R xs ys
    → fs ≡ drop n xs → gs ≡ drop n ys → AllZip R fs gs
zip_back R n xs fs ys gs all is this = rw (is, this) (zip_dropped R n xs ys all)

-- what holds of each item of a list holds of its first ones, and of the others
pub each_front : {X : Type 0} (P : X → Type 0) (n : ℕ) (xs fs : List X) → AllByRecursion P xs → fs ≡ take n xs → AllByRecursion P fs
each_front P n xs fs all is = rw is (each_taken P n xs all)

pub each_back : {X : Type 0} (P : X → Type 0) (n : ℕ) (xs fs : List X) → AllByRecursion P xs → fs ≡ drop n xs → AllByRecursion P fs
each_back P n xs fs all is = rw is (each_dropped P n xs all)

-- what holds of two lists place by place, and of two others, holds of each two behind each other
pub zip_append : {A B : Type 0} (R : A → B → Type 0) (xs us : List A) (ys vs : List B) → AllZip R xs ys → AllZip R us vs → AllZip R (xs ++ us) (ys ++ vs)
zip_append R [] us [] vs h k = k
zip_append R [] us (y ∷ ys) vs h k = absurd h
zip_append R (x ∷ xs) us [] vs h k = absurd h
zip_append R (x ∷ xs) us (y ∷ ys) vs (h, hs) k = (h, zip_append R xs us ys vs hs k)

-- of a list and of what came of its two parts
pub halves_zip : {A B : Type 0} (R : A → B → Type 0) (n : ℕ) (xs fs gs : List A) (ys zs : List B) → fs ≡ take n xs → gs ≡ drop n xs
    → AllZip R fs ys → AllZip R gs zs → AllZip R xs (ys ++ zs)
halves_zip R n xs fs gs ys zs front back first then =
    subst (λ os. AllZip R os (ys ++ zs)) (ap (λ os. os ++ gs) front ∙ ap (λ os. take n xs ++ os) back ∙ take-append-drop n xs)
    (zip_append R fs gs ys zs first then)
