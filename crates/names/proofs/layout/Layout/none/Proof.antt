-- `Layout::none`: each part is written as it is to be.
use Rattle.names.proofs.layout.Layout.none.Statement.{statement}
use Rattle.names.proofs.layout.Layout.none.Tie as tie

returns : tie.Need-returns
returns c = rw c.none-places.ensures

pub none_spec : {M : Type 1} → statement M
none_spec =
    tie.close (tie.spec (λ c κs. tt) returns)
