-- `layout::user_name_in`: the part at the place of the user's name is that name.
use mathlib.Core.Path.{◌∙◌}
use Rattle.names.specs.Laws.NamesThere.{name_placed}
use Rattle.names.proofs.layout.user_name_in.Statement.{statement}
use Rattle.names.proofs.layout.user_name_in.Tie as tie

pub user_name_in_spec : {M : Type 1} → statement M
user_name_in_spec =
    tie.close (tie.spec
    (λ c κs. let start = c.before.before in (name_placed start.requires.0.names start.args.u.0 start.requires.1).0)
    (λ c. let start = c.before.before.before in
    c.part_at.ensures ∙ (name_placed start.requires.0.names start.args.u.0 start.requires.1).1))
