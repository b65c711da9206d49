-- What the layout of an accepted sheet notes: its names at their own places, and nothing past them. Assumes nothing.
use Rattle.places.specs.Places.{BlankPast}
use Rattle.sheet.specs.FirstLine.{Run}
use Rattle.names.specs.declared.layout.Layout.{Layout}

-- no place is noted past the counts, and the permissions' names are those of the first line, one behind the other
pub record OnlyNames (layout : Layout) : Type 0 where
  pub users_end : BlankPast layout.users layout.user_places.at
  pub permissions_end : BlankPast layout.permissions layout.permission_places.at
  pub permissions_run : Run layout.permission_places.at layout.permissions
