-- What a call leaves of the readings before it.
use Rattle.std.specs.Prelude.{◌≡◌, ◌++◌}
use Rattle.track_rule.specs.Readings.{added}
use Rattle.track_rule.specs.Sights.{PassSight}

-- all of them stand, in front of those that the call added
abbrev pub ReadingsStand : PassSight → PassSight → Type 0
ReadingsStand v w = w.view.readings ≡ v.view.readings ++ added v.view w.view
