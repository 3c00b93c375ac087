-- Issue 30, part 1, a contradiction: "an event that says what the processor did and that the model refuses, or bytes that are no
-- event"; docs/MODEL.md, "Contradictions".
use Rattle.std.specs.Prelude.{ℕ, suc, Bool, cond, ◌&&◌, ◌||◌, List, [], ◌∷◌, eqb, leb}
use Rattle.model.specs.declared.Context.{Context}
use Rattle.model.specs.Layouts.{kind_of, mapping_kind}
use Rattle.model.specs.Answers.{among}
use Rattle.runs.specs.Book.{Book}
use Rattle.roomy_runs.specs.Books.{roomy_answer, roomy_after}

-- "Some events report what the processor did: a creation, an EPT violation, a VM exit, a new PCID and CPL (kind 24)."
unfoldable pub reports_deed : List ℕ → Bool
reports_deed e = mapping_kind (kind_of e) || among (kind_of e) (19 ∷ 21 ∷ 24 ∷ [])

-- "An event contradicts the model if it is answered 4, which an unknown kind and a cut record are, too; or it reports what the
-- processor did, and is answered 5 to 11."
unfoldable pub contradicts : Context → List ℕ → Bool
contradicts c e = eqb (roomy_answer c e) 4 || (reports_deed e && (leb 5 (roomy_answer c e) && leb (roomy_answer c e) 11))

-- the numbers in the log, from 1, of the events that do, where n events went before
unfoldable pub contradictions : ℕ → Book → List (List ℕ) → List ℕ
contradictions n b [] = []
contradictions n b (e ∷ es) =
    cond (contradicts b.context e) (suc n ∷ contradictions (suc n) (roomy_after b e) es) (contradictions (suc n) (roomy_after b e) es)
