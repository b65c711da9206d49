-- A call of a function of the code, and what it is to keep a contract: what the theorems about the contracts as the
-- sources have them are said with. Assumes nothing.
use Rattle.std.specs.Prelude.{ℕ, List}
use borrow.Fn.Kinds.{ParamKind, ResultKind, Dens, In, Out, res_t, ended_of}
use contract.Lifetimes.{Lfts}
use denote.Triple.Clauses.{AtExit}

-- the values of one call of a function with these parameters and this result: its arguments, what it returned, and
-- its arguments as it returned
pub record CodeCall (n : ℕ) (ps : List (ParamKind n)) (r : ResultKind n) : Type 1 where
  pub lifetimes : Lfts n
  pub args : Dens lifetimes ps
  pub result : (res_t r lifetimes).Denot
  pub left : AtExit (ended_of n ps r) lifetimes

-- they are as the contract says: what it ensures holds where what it requires did
abbrev pub Kept : {n : ℕ} {ps : List (ParamKind n)} {r : ResultKind n} → In n ps → Out n ps r → CodeCall n ps r → Type 0
Kept requires ensures call =
    requires call.lifetimes call.args → ensures call.lifetimes call.args call.result call.left
