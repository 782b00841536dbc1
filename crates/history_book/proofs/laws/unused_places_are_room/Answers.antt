use Rattle.history_book.proofs.Room.{room_beside}
use Rattle.history_book.proofs.laws.unused_places_are_room.Goals as goal

pub returns : goal.returns
returns c = room_beside
