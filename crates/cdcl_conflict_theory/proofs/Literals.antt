-- Literals and their negations on a trail.
use Rattle.std.proofs.Common.{◌≡◌, ◌≢◌, ℕ, ◌/◌, ◌<◌, sym, ap, ◌∙◌, arith}
use Rattle.clauses.specs.Live.{Numbered}
use Rattle.cdcl_trail.specs.Literals.{opposite}
use Rattle.cdcl_conflict_theory.specs.Trails.{Steps, IsTrail, size_of, literal_at}

pub variable-opposite : (literal : ℕ) → opposite literal / 2 ≡ literal / 2
variable-opposite literal = omega arith

pub opposite-opposite : (literal : ℕ) → opposite (opposite literal) ≡ literal
opposite-opposite literal = omega arith

pub opposite_differs : (literal : ℕ) → opposite literal ≢ literal
opposite_differs literal same = omega arith

-- a literal determines its negation, and the other way round
pub opposite-injective : (first second : ℕ) → opposite first ≡ opposite second → first ≡ second
opposite-injective first second same = omega arith

-- no literal of a trail is the negation of another
pub clash : (clauses : Numbered ℕ) (steps : Steps) (place other : ℕ) → IsTrail clauses steps → place < size_of steps → other < size_of steps →
    opposite (literal_at steps place) ≡ literal_at steps other → ⊥
clash clauses steps place other trail here there same =
    let variables : literal_at steps place / 2 ≡ literal_at steps other / 2 = sym (variable-opposite (literal_at steps place)) ∙ ap (λ l. l / 2) same in
    let one : place ≡ other = trail.apart place other here there variables in
    opposite_differs (literal_at steps place) (same ∙ ap (literal_at steps) (sym one))

-- each literal stands at one place
pub one_place : (clauses : Numbered ℕ) (steps : Steps) (place other : ℕ) → IsTrail clauses steps → place < size_of steps → other < size_of steps →
    literal_at steps place ≡ literal_at steps other → place ≡ other
one_place clauses steps place other trail here there same = trail.apart place other here there (ap (λ l. l / 2) same)
