-- `cover::grouped_by_fit`: after d turns the first d grants have the classes that the grouping by fit gives them, and
-- the words say what these classes ask and lack.
use Rattle.std.proofs.Common.{◌≡◌, length}
use Rattle.spec.specs.Limits.{grant_limit}
use Rattle.cells.specs.Blank.{BlankFrom}
use Rattle.cover.specs.CoverRelation.{HeldCells}
use Rattle.cover.specs.CoverMembers.{class_words}
use Rattle.cover.specs.Laws.CoverFit.{FitSoFar}
use Rattle.cover.proofs.cover.grouped_by_fit.Given as goal

abbrev pub invariant-loop-d : goal.invariant-loop-d
invariant-loop-d l =
    (length l.classes ≡ grant_limit) × (length l.asked ≡ class_words) × (length l.lacked ≡ class_words)
    × (HeldCells l.rows l.cells
    → FitSoFar l.rows l.cells l.classes l.d l.count l.asked l.lacked l.latest.0 l.allowed l.most)
    × BlankFrom l.d l.classes
