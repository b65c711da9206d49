-- The layout of nothing: no name is counted and no place is noted. Assumes nothing.
use Rattle.places.specs.Places.{no_places}
use Rattle.names.specs.declared.layout.Layout.{Layout}

abbrev pub no_layout : Layout
no_layout =
    record { users = 0; permissions = 0; grants = 0; user_places = no_places; permission_places = no_places }
