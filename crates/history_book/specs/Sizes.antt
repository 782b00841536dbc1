-- Which sizes a tracker can have, and what they say of its states.
use Rattle.std.specs.Prelude.{◌≡◌, ℕ, ◌-◌, ◌*◌, ◌≤◌, true}
use Rattle.std.specs.Int.{is_power_of_two}
use Rattle.history_book.specs.declared.sizes.Sizes.{Sizes}

-- where a pass that keeps no place itself finds none free, so many entries at least are live: each other pass
-- keeps at most four places
abbrev pub fewest_of_full : Sizes → ℕ
fewest_of_full sizes = sizes.entries - 4 * (sizes.passes - 1)

-- the sizes that a tracker can have
pub record AreWithinLimits (sizes : Sizes) : Type 0 where
  pub some_entries : 1 ≤ sizes.entries
  pub entries : sizes.entries ≤ 65536
  pub buckets : sizes.buckets ≤ 65536
  pub power : is_power_of_two sizes.buckets ≡ true
  pub some_passes : 1 ≤ sizes.passes
  pub passes : sizes.passes ≤ 64
  pub expectations : sizes.expectations ≤ 1024
