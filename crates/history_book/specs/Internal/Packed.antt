-- Lists of values most of which have a short form.
use Rattle.std.specs.Prelude.{◌≡◌, ℕ, ◌<◌, ◌≤◌, ◌^◌, true, Option, Some, List, All, is_some, length, slice_get}
use Rattle.std.specs.List.{filter_map}
use Rattle.history_book.specs.declared.packed.Stored.{Stored}
use Rattle.history_book.specs.declared.packed.Stored.TheVariants.{Here, Whole}
use Rattle.room_list.specs.Roomed.{Roomed}

-- the value that a form stands for, where these stand whole
abbrev pub value_of : {T : Type 0} → List T → Stored T → Option T
value_of whole (Here value) = Some value
value_of whole (Whole at) = slice_get whole at

-- the values of forms, in order
abbrev pub values_of : {S T : Type 0} → (S → Stored T) → List T → List S → List T
values_of stored whole forms = filter_map (λ s. value_of whole (stored s)) forms

-- each form stands for a value, there is room for so many forms and for so many whole values, and an index counts them
pub record ArePacked {S T : Type 0} (stored : S → Stored T) (forms : Roomed S) (whole : Roomed T) (room : ℕ) : Type 0 where
  pub values : All (λ s. is_some (value_of whole.items (stored s)) ≡ true) forms.items
  pub fits : length forms.items ≤ room
  pub form_room : room ≤ forms.room
  pub whole_room : room ≤ whole.room
  pub fewer : length whole.items ≤ length forms.items
  pub few : room < 2 ^ 32
