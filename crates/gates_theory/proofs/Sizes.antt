-- How many words the clauses of a circuit have.
use Rattle.std.proofs.Common.{◌≡◌, ℕ, zero, suc, ◌+◌, ◌-◌, ◌*◌, ℤ, pos, negsuc, neg_ℤ, cond, List, [], ◌∷◌, ◌++◌, length, refl, sym, ap, ◌∙◌, arith, suc-mul, add-mul}
use Rattle.std.specs.List.{count_by}
use Rattle.std.proofs.lemmas.List.Sums.{sum_by-cons, sum_by-append}
use Rattle.clauses.specs.Literals.{clause_words}
use Rattle.gates_theory.specs.declared.circuit.Circuit.{Circuit}
use Rattle.gates_theory.specs.declared.circuit.Gate.{Gate}
use Rattle.gates_theory.specs.declared.circuit.Gate.TheVariants.{Free, And}
use Rattle.gates_theory.specs.Circuits.{IsSound}
use Rattle.gates_theory.specs.Unrolled.{up_to, moved, equality, gate_clauses, gates_clauses, units, links, position_clauses, unrolled}
use Rattle.gates_theory.specs.Distinct.{pairs, following, differences, pair_clauses, variables_before, distinct}
use Rattle.gates_theory.specs.Sizes.{is_conjunction, unrolled_words, distinct_words}

-- a clause and others, and clauses behind others
pub words-cons : (clause : List ℤ) (clauses : List (List ℤ)) → clause_words (clause ∷ clauses) ≡ length clause + 1 + clause_words clauses
words-cons clause clauses = sum_by-cons (λ (c : List ℤ). length c + 1) clause clauses

pub words-append : (front back : List (List ℤ)) → clause_words (front ++ back) ≡ clause_words front + clause_words back
words-append front back = sum_by-append (λ (c : List ℤ). length c + 1) front back

words_of_two : (c d : List ℤ) → clause_words (c ∷ d ∷ []) ≡ length c + length d + 2
words_of_two c d = omega (arith, words-cons c (d ∷ []), words-cons d [])

words_of_three : (c d e : List ℤ) → clause_words (c ∷ d ∷ e ∷ []) ≡ length c + length d + length e + 3
words_of_three c d e = omega (arith, words-cons c (d ∷ e ∷ []), words_of_two d e)

-- gates
abbrev pub conjunctions : List Gate → ℕ
conjunctions gates = count_by is_conjunction gates

conjunctions-cons : (gate : Gate) (gates : List Gate) → conjunctions (gate ∷ gates) ≡ cond (is_conjunction gate) 1 0 + conjunctions gates
conjunctions-cons gate gates = sum_by-cons (λ g. cond (is_conjunction g) 1 0) gate gates

gate-words : (base before : ℕ) (gate : Gate) → clause_words (gate_clauses base before gate) ≡ 10 * cond (is_conjunction gate) 1 0
gate-words base before Free = refl
gate-words base before (And first second) =
    let c = pos (base + suc before) in
    let a = moved base first in
    let b = moved base second in
    words_of_three (neg_ℤ c ∷ a ∷ []) (neg_ℤ c ∷ b ∷ []) (c ∷ neg_ℤ a ∷ neg_ℤ b ∷ [])

gates-words : (base before : ℕ) (gates : List Gate) → clause_words (gates_clauses base before gates) ≡ 10 * conjunctions gates
gates-words base before [] = refl
gates-words base before (gate ∷ gates) =
    omega (
      arith,
      words-append (gate_clauses base before gate) (gates_clauses base (suc before) gates),
      gate-words base before gate,
      gates-words base (suc before) gates,
      conjunctions-cons gate gates,
    )

units-words : (base : ℕ) (literals : List ℤ) → clause_words (units base literals) ≡ 2 * length literals
units-words base [] = refl
units-words base (literal ∷ literals) = omega (arith, words-cons (moved base literal ∷ []) (units base literals), units-words base literals)

links-words : (high low : ℕ) (literals others : List ℤ) → length others ≡ length literals → clause_words (links high low literals others) ≡ 6 * length literals
links-words high low [] others sizes = refl
links-words high low (literal ∷ literals) [] sizes = absurd (omega arith)
links-words high low (literal ∷ literals) (other ∷ others) sizes =
    let a = moved high literal in
    let b = moved low other in
    omega (
      arith,
      words-append (equality a b) (links high low literals others),
      words_of_two (neg_ℤ a ∷ b ∷ []) (a ∷ neg_ℤ b ∷ []),
      links-words high low literals others (omega arith),
    )

-- positions
first-words : (c : Circuit) → clause_words (position_clauses c 0) ≡ 10 * conjunctions c.gates
first-words c = gates-words 0 0 c.gates

next-words : (c : Circuit) (i : ℕ) → IsSound c → clause_words (position_clauses c (suc i)) ≡ 2 * length c.hold + 6 * length c.now + 10 * conjunctions c.gates
next-words c i sound =
    let g = length c.gates in
    let held = units (i * g) c.hold in
    let linked = links (suc i * g) (i * g) c.now c.next in
    let gated = gates_clauses (suc i * g) 0 c.gates in
    omega (
      arith,
      words-append (held ++ linked) gated,
      words-append held linked,
      units-words (i * g) c.hold,
      links-words (suc i * g) (i * g) c.now c.next sound.each,
      gates-words (suc i * g) 0 c.gates,
    )

some-words : (c : Circuit) (last : ℕ) → IsSound c →
    clause_words (unrolled c (suc last)) ≡ suc last * (10 * conjunctions c.gates) + last * (2 * length c.hold + 6 * length c.now)
some-words c zero sound = omega (arith, words-append [] (position_clauses c 0), first-words c, suc-mul 0 (10 * conjunctions c.gates))
some-words c (suc last) sound =
    omega (
      arith,
      words-append (unrolled c (suc last)) (position_clauses c (suc last)),
      some-words c last sound,
      next-words c last sound,
      suc-mul (suc last) (10 * conjunctions c.gates),
      suc-mul last (2 * length c.hold + 6 * length c.now),
    )

pub unrolled-words : (c : Circuit) (positions : ℕ) → IsSound c → clause_words (unrolled c positions) ≡ unrolled_words c positions
unrolled-words c zero sound = omega arith
unrolled-words c (suc last) sound =
    let e : suc last - 1 ≡ last = omega arith in
    some-words c last sound ∙ ap (λ n. suc last * (10 * conjunctions c.gates) + n * (2 * length c.hold + 6 * length c.now)) (sym e)

-- different states
pub length-following : (variables count : ℕ) → length (following variables count) ≡ count
length-following variables zero = refl
length-following variables (suc count) = ap suc (length-following (suc variables) count)

differences-words : (variables low high : ℕ) (literals : List ℤ) → clause_words (differences variables low high literals) ≡ 8 * length literals
differences-words variables low high [] = refl
differences-words variables low high (literal ∷ literals) =
    let a = moved low literal in
    let b = moved high literal in
    let rest = differences (suc variables) low high literals in
    omega (
      arith,
      words-cons (negsuc variables ∷ a ∷ b ∷ []) ((negsuc variables ∷ neg_ℤ a ∷ neg_ℤ b ∷ []) ∷ rest),
      words-cons (negsuc variables ∷ neg_ℤ a ∷ neg_ℤ b ∷ []) rest,
      differences-words (suc variables) low high literals,
    )

pair-words : (c : Circuit) (variables earlier later : ℕ) → clause_words (pair_clauses c variables earlier later) ≡ 9 * length c.now + 1
pair-words c variables earlier later =
    let g = length c.gates in
    let some = following variables (length c.now) in
    omega (
      arith,
      words-append (differences variables (earlier * g) (later * g) c.now) (some ∷ []),
      words-cons some [],
      differences-words variables (earlier * g) (later * g) c.now,
      length-following variables (length c.now),
    )

row-words : (c : Circuit) (variables later count : ℕ) →
    clause_words (up_to count (λ earlier. pair_clauses c (variables_before c variables earlier later) earlier later)) ≡ count * (9 * length c.now + 1)
row-words c variables later zero = omega arith
row-words c variables later (suc count) =
    let row : ℕ → List (List ℤ) = λ earlier. pair_clauses c (variables_before c variables earlier later) earlier later in
    omega (
      arith,
      words-append (up_to count row) (row count),
      row-words c variables later count,
      pair-words c (variables_before c variables count later) count later,
      suc-mul count (9 * length c.now + 1),
    )

pub distinct-words : (c : Circuit) (variables positions : ℕ) → clause_words (distinct c variables positions) ≡ distinct_words c positions
distinct-words c variables zero = omega arith
distinct-words c variables (suc later) =
    let row : List (List ℤ) = up_to later (λ earlier. pair_clauses c (variables_before c variables earlier later) earlier later) in
    omega (
      arith,
      words-append (distinct c variables later) row,
      distinct-words c variables later,
      row-words c variables later later,
      add-mul (pairs later) later (9 * length c.now + 1),
    )
