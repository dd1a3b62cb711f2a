-- What the steps of a solver leave of what it knows.
use Rattle.std.proofs.Common.{◌≡◌, ◌≢◌, ℕ, zero, suc, ◌-◌, ◌*◌, ◌<◌, ℤ, Bool, true, false, List, [], ◌∷◌, ◌++◌, length, set, get_or, Some, None, refl, sym, ap, ◌∙◌, arith, ltb, leb}
use Rattle.std.specs.Bool.{IsTrue}
use Rattle.std.specs.List.{All, Contains, list_all}
use Rattle.std.proofs.lemmas.Bool.{and_from, and_parts, leb-true, true≢false}
use Rattle.std.proofs.lemmas.List.{get_or_append_left, get_or_push, get_or-set_other}
use Rattle.std.proofs.lemmas.List.Elements.{All-contains, All-weaker}
use Rattle.clauses.specs.Live.{Numbered, clause_of}
use Rattle.clauses.specs.Literals.{clause_within, is_within, variable_of}
use Rattle.clauses.specs.Models.{Assignment, meets, IsModel}
use Rattle.clauses.proofs.Lives.{each_live-push, each_live-set}
use Rattle.clauses.proofs.Soundness.{member_within}
use Rattle.cdcl_trail.specs.Literals.{signed}
use Rattle.cdcl_incremental.specs.Standing.{IsMet, AreMet, StandsFor, IsStoredAs}
use Rattle.cdcl.proofs.Logging.{variable_signed}
use Rattle.cdcl_incremental.proofs.Meeting.{met_by}
use Rattle.cdcl.proofs.Members.{number_within}
use Rattle.cdcl.proofs.Modelling.{meets_member}

-- where a clause more stands, and the others
live_still : (clauses : Numbered ℕ) (more : List ℕ) (number : ℕ) (clause : List ℕ) → clause_of clauses number ≡ Some clause → clause_of (clauses ++ Some more ∷ []) number ≡ Some clause
live_still clauses more zero clause live = cc
live_still clauses more (suc place) clause live =
    let at = number_within clauses (suc place) clause live in
    get_or_append_left clauses (Some more ∷ []) None place (omega (arith, at.1)) ∙ live

live_last : (clauses : Numbered ℕ) (more : List ℕ) → clause_of (clauses ++ Some more ∷ []) (suc (length clauses)) ≡ Some more
live_last clauses more = get_or_push clauses (Some more) None (length clauses) refl

not_last : (clauses : Numbered ℕ) (number : ℕ) (clause : List ℕ) → clause_of clauses number ≡ Some clause → number ≢ suc (length clauses)
not_last clauses number clause live same = let at = number_within clauses number clause live in omega (arith, at.1)

-- a lemma more
pub stands_learned : (variables : ℕ) (formula : List (List ℤ)) (clauses : Numbered ℕ) (lemma : List ℕ) (is_lemma marked : List Bool) (is_refuted is_full : Bool)
    → ((other : ℕ) → other ≢ suc (length clauses) → get_or marked other false ≡ get_or is_lemma other false)
    → All (λ literal. literal < 2 * variables) lemma → ((values : Assignment) → AreMet values clauses → IsMet values lemma)
    → StandsFor variables formula clauses is_lemma is_refuted is_full → StandsFor variables formula (clauses ++ Some lemma ∷ []) marked is_refuted is_full
stands_learned variables formula clauses lemma is_lemma marked is_refuted is_full marks within met stands = record {
  within = each_live-push (λ clause. All (λ literal. literal < 2 * variables) clause) clauses lemma stands.within within;
  follows = λ values model. each_live-push (IsMet values) clauses lemma (stands.follows values model) (met values (stands.follows values model));
  suffices = λ not_refuted not_full values kept_met. stands.suffices not_refuted not_full values (λ number clause live kept.
      kept_met number clause (live_still clauses lemma number clause live) (marks number (not_last clauses number clause live) ∙ kept));
  refutes = stands.refutes;
}

-- a lemma is dropped
set_other : (clauses : Numbered ℕ) (gone number : ℕ) (clause : List ℕ) → number ≢ gone → 0 < gone → clause_of clauses number ≡ Some clause → clause_of (set clauses (gone - 1) None) number ≡ Some clause
set_other clauses gone zero clause other some live = live
set_other clauses gone (suc place) clause other some live =
    let apart : place ≢ gone - 1 = omega arith in
    rw get_or-set_other live

pub stands_dropped : (variables : ℕ) (formula : List (List ℤ)) (clauses : Numbered ℕ) (gone : ℕ) (is_lemma : List Bool) (is_refuted is_full : Bool) → 0 < gone → get_or is_lemma gone false ≡ true
    → StandsFor variables formula clauses is_lemma is_refuted is_full → StandsFor variables formula (set clauses (gone - 1) None) is_lemma is_refuted is_full
stands_dropped variables formula clauses gone is_lemma is_refuted is_full some lemma stands = record {
  within = each_live-set (λ clause. All (λ literal. literal < 2 * variables) clause) clauses (gone - 1) stands.within;
  follows = λ values model. each_live-set (IsMet values) clauses (gone - 1) (stands.follows values model);
  suffices = λ not_refuted not_full values kept_met. stands.suffices not_refuted not_full values (λ number clause live kept.
      kept_met number clause (set_other clauses gone number clause (λ same. true≢false (sym lemma ∙ ap (λ n. get_or is_lemma n false) (sym same) ∙ kept)) some live) kept);
  refutes = stands.refutes;
}

-- a model of a formula with one clause more, by its parts
model_push : (values : Assignment) (formula : List (List ℤ)) (clause : List ℤ) → IsModel values formula → IsTrue (meets values clause) → IsModel values (formula ++ clause ∷ [])
model_push values [] clause model met = and_from (meets values clause) true met refl
model_push values (first ∷ formula) clause model met =
    let parts = and_parts (meets values first) (list_all (meets values) formula) model in
    and_from (meets values first) (list_all (meets values) (formula ++ clause ∷ [])) parts.0 (model_push values formula clause parts.1 met)

model_parts : (values : Assignment) (formula : List (List ℤ)) (clause : List ℤ) → IsModel values (formula ++ clause ∷ []) → IsModel values formula × IsTrue (meets values clause)
model_parts values [] clause model = (refl, (and_parts (meets values clause) true model).0)
model_parts values (first ∷ formula) clause model =
    let parts = and_parts (meets values first) (list_all (meets values) (formula ++ clause ∷ [])) model in
    let rest = model_parts values formula clause parts.1 in
    (and_from (meets values first) (list_all (meets values) formula) parts.0 rest.0, rest.1)

-- a literal of a clause within the variables
pub literal_within : (variables literal : ℕ) → is_within variables (signed literal) ≡ true → literal < 2 * variables
literal_within variables literal within =
    let parts = and_parts (ltb 0 (variable_of (signed literal))) (leb (variable_of (signed literal)) variables) within in
    let below = leb-true (variable_of (signed literal)) variables parts.1 in
    omega (arith, below, variable_signed literal)

pub rest_within : (variables : ℕ) (clause : List ℤ) (rest : List ℕ) → IsTrue (clause_within variables clause) → All (λ literal. Contains clause (signed literal)) rest → All (λ literal. literal < 2 * variables) rest
rest_within variables clause rest within among =
    All-weaker (λ literal. Contains clause (signed literal)) (λ literal. literal < 2 * variables) (λ literal there. literal_within variables literal (member_within variables clause (signed literal) within there)) rest among

-- where literals of a clause are met, the clause is
rest_meets : (values : Assignment) (clause : List ℤ) (rest : List ℕ) → All (λ literal. Contains clause (signed literal)) rest → IsMet values rest → IsTrue (meets values clause)
rest_meets values clause rest among met =
    let found = met_by values rest met in
    meets_member values clause (signed found.0) (All-contains (λ literal. Contains clause (signed literal)) rest found.0 among found.1) found.2

-- a clause more, which was stored
pub stands_stored : (variables : ℕ) (formula : List (List ℤ)) (clause : List ℤ) (old : Numbered ℕ) (rest : List ℕ) (new : Numbered ℕ) (is_lemma marked : List Bool) (is_refuted is_full : Bool)
    → IsTrue (clause_within variables clause)
    → ((other : ℕ) → other ≢ suc (length old) → get_or marked other false ≡ get_or is_lemma other false) → get_or marked (suc (length old)) false ≡ false
    → IsStoredAs old clause rest new → StandsFor variables formula old is_lemma is_refuted is_full → StandsFor variables (formula ++ clause ∷ []) new marked is_refuted is_full
stands_stored variables formula clause old rest new is_lemma marked is_refuted is_full within marks unmarked stored stands =
    let here = rest_within variables clause rest within stored.among in
    rw stored.clauses record {
      within = each_live-push (λ c. All (λ literal. literal < 2 * variables) c) old rest stands.within here;
      follows = λ values model.
          let parts = model_parts values formula clause model in
          let met = stands.follows values parts.0 in
          each_live-push (IsMet values) old rest met (stored.same values met parts.1);
      suffices = λ not_refuted not_full values kept_met.
          model_push values formula clause
          (stands.suffices not_refuted not_full values (λ number c live kept.
          kept_met number c (live_still old rest number c live) (marks number (not_last old number c live) ∙ kept)))
          (rest_meets values clause rest stored.among (kept_met (suc (length old)) rest (live_last old rest) unmarked));
      refutes = λ refuted values model. stands.refutes refuted values (model_parts values formula clause model).0;
    }

-- a clause more, with which there is no model
pub stands_refuted : (variables : ℕ) (formula : List (List ℤ)) (clause : List ℤ) (clauses : Numbered ℕ) (is_lemma : List Bool) (is_refuted is_full : Bool)
    → ((values : Assignment) → AreMet values clauses → IsTrue (meets values clause) → ⊥)
    → StandsFor variables formula clauses is_lemma is_refuted is_full → StandsFor variables (formula ++ clause ∷ []) clauses is_lemma true is_full
stands_refuted variables formula clause clauses is_lemma is_refuted is_full refutes stands = record {
  within = stands.within;
  follows = λ values model. stands.follows values (model_parts values formula clause model).0;
  suffices = λ not_refuted. absurd (true≢false not_refuted);
  refutes = λ _ values model.
      let parts = model_parts values formula clause model in
      refutes values (stands.follows values parts.0) parts.1;
}

-- there is no model
pub stands_never : (variables : ℕ) (formula : List (List ℤ)) (clauses : Numbered ℕ) (is_lemma : List Bool) (is_refuted is_full : Bool) → ((values : Assignment) → AreMet values clauses → ⊥)
    → StandsFor variables formula clauses is_lemma is_refuted is_full → StandsFor variables formula clauses is_lemma true is_full
stands_never variables formula clauses is_lemma is_refuted is_full never stands = record {
  within = stands.within;
  follows = stands.follows;
  suffices = λ not_refuted. absurd (true≢false not_refuted);
  refutes = λ _ values model. never values (stands.follows values model);
}
