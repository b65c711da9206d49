-- What a session has where its search stands, and where a search within a budget comes to.
use Rattle.std.specs.Prelude.{ℕ, ◌≡◌}
use Rattle.spec.specs.Sheet.{sheet_of}
use Rattle.spec.specs.Machine.{search}
use Rattle.spec.specs.Roles.{kernel_of, role_count, standing, bound}
use Rattle.moves.specs.StepKinds.{kinds_said}
use Rattle.search.specs.declared.machine.Position.{Position}
use Rattle.search.specs.declared.machine.Ran.{Ran}
use Rattle.standing.specs.StandingCases.{standing_case}
use Rattle.book_lines.specs.declared.counts.Counts.{Counts}
use Rattle.session.specs.CodeSession.{text_in, state_in, Holds}
use Rattle.session.specs.declared.Session.{Session as CodeSession}

-- roles, bound and state
pub record CountsIn (s : CodeSession) (counts : Counts) : Type 0 where
  pub roles : counts.roles ≡ role_count (sheet_of (text_in s)) (state_in s)
  pub bound : counts.bound ≡ bound (sheet_of (text_in s)) (state_in s)
  pub standing : standing_case counts.standing ≡ standing (sheet_of (text_in s)) (state_in s)

-- the session with its search at another position
abbrev pub moved_to : CodeSession → Position → CodeSession
moved_to s at =
    record {
      loaded = s.loaded;
      reduced = s.reduced;
      length = s.length;
      text = s.text;
      layout = s.layout;
      rows = s.rows;
      position = at;
      prepared = s.prepared;
    }

-- the search goes on as the machine does, and the session holds what it did
pub record RanIn (s : CodeSession) (budget : ℕ) (ran : Ran) : Type 0 where
  pub state : state_in (moved_to s ran.position) ≡ (search (kernel_of (sheet_of (text_in s))) budget
      (state_in s)).state
  pub steps : ran.steps ≡ (search (kernel_of (sheet_of (text_in s))) budget (state_in s)).steps
  pub kinds : kinds_said ran.kinds ≡ (search (kernel_of (sheet_of (text_in s))) budget (state_in s)).kinds
  pub holds : Holds (moved_to s ran.position)
