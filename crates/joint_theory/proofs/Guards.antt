-- What a combination asks for under its guards is enough to meet it; its guards test what it tests; and the terms of what
-- is asked for under guards.
use Rattle.std.proofs.Common.{◌≡◌, ◌⊎◌, inl, inr, refl, ap, ◌∙◌, ℕ, ◌+◌, ◌≤◌, ℤ, Bool as Truth, true, false, not, ◌&&◌, ◌||◌, eqb, List, [], ◌∷◌, ◌++◌, Option}
use Rattle.std.specs.Prelude.{IsTrue, All, if◌then◌else◌}
use Rattle.std.specs.List.{list_any}
use Rattle.std.proofs.lemmas.Bool.{and_from, and_parts, eq-eqb, or_cases, or_left, or_parts, or_right}
use Rattle.std.proofs.lemmas.List.Folds.{list_any-append}
use Rattle.alternating_theory.specs.Atoms.{AtomsOfPositive}
use Rattle.alternating_theory.specs.Positive.{met, owes, Positive, Const, Holds, Owed, And, Or}
use Rattle.clauses.specs.Literals.{is_within}
use Rattle.clauses.specs.Models.{is_true, Assignment}
use Rattle.gates_theory.specs.Terms.{term_within, value, Term}
use Rattle.gates_theory.specs.Terms.Term.{Conjunction, Negation}
use Rattle.netlist.specs.Design.{Design}
use Rattle.netlist.specs.Sound.{NamesBit}
use Rattle.psl_tree.specs.Holds.{holds}
use Rattle.psl_tree.specs.Names.{AtomInRange}
use Rattle.psl_tree.specs.Trees as trees
use Rattle.psl_tree.specs.Trees.{Boolean}
use Rattle.psl_tree.specs.declared.atom.Atom.{Atom}
use Rattle.psl_tree.specs.declared.letter.Letter.{Letter}
use Rattle.run_terms.specs.Letters.{letter_after}
use Rattle.run_terms.specs.Positions.{position_width, IsPosition}
use Rattle.run_terms.specs.Booleans.{boolean_term}
use Rattle.run_terms.proofs.BooleanValues.{boolean-value, boolean-within}
use Rattle.joint_theory.specs.Guards.{allows, and_guard, asks, guards, if_test, or_guard, unless_test, AtomsOfGuard, Guard, Always, If, IfNot}
use Rattle.joint_theory.specs.Relation.{asking_term, unless_asking}

-- A test that stands beside an obligation guards it, in a conjunction and in a disjunction; behind a constant that says
-- nothing it does so still, and behind another combination no more. What is named twice has two guards.
module _ (one two : Boolean) where
  beside : guards Always (And (Holds (trees.Not one)) (Owed 1)) 1 ≡ If (trees.Not one) ∷ []
  beside = refl

  without : guards Always (Or (Owed 1) (Holds (trees.Not one))) 1 ≡ IfNot (trees.Not one) ∷ []
  without = refl

  behind : guards Always (And (Holds (trees.Not one)) (Or (Holds (trees.Const false)) (Owed 1))) 1 ≡ If (trees.Not one) ∷ []
  behind = refl

  farther : guards Always (And (Holds (trees.Not one)) (And (Owed 2) (Owed 1))) 1 ≡ Always ∷ []
  farther = refl

  twice : guards Always (Or (And (Holds (trees.Not one)) (Owed 1)) (And (Owed 1) (Holds (trees.Not two)))) 1 ≡ If (trees.Not one) ∷ If (trees.Not two) ∷ []
  twice = refl

-- beside what is met in a conjunction, what is asked for is asked for still
if-allows : (letter : Letter) (guard : Guard) (test : Boolean) → IsTrue (allows letter guard) → IsTrue (holds letter test) → IsTrue (allows letter (if_test guard test))
if-allows letter guard (trees.Const true) a h = a
if-allows letter guard (trees.Const false) a h = h
if-allows letter guard (trees.Test atom) a h = h
if-allows letter guard (trees.Not part) a h = h
if-allows letter guard (trees.And left right) a h = h
if-allows letter guard (trees.Or left right) a h = h

and-allows : (letter : Letter) (guard : Guard) (sibling : Positive) (f : ℕ → Truth) → IsTrue (allows letter guard) → IsTrue (met sibling letter f)
    → IsTrue (allows letter (and_guard guard sibling))
and-allows letter guard (Const value) f a h = refl
and-allows letter guard (Holds test) f a h = if-allows letter guard test a h
and-allows letter guard (Owed number) f a h = refl
and-allows letter guard (And left right) f a h = refl
and-allows letter guard (Or left right) f a h = refl

-- in a disjunction it is so too, or what it stands beside is met by the letter alone
either-of : (t : Truth) → IsTrue t ⊎ IsTrue (not t)
either-of true = inl refl
either-of false = inr refl

unless-allows : (letter : Letter) (guard : Guard) (test : Boolean) → IsTrue (allows letter guard) → IsTrue (holds letter test) ⊎ IsTrue (allows letter (unless_test guard test))
unless-allows letter guard (trees.Const true) a = either-of (holds letter (trees.Const true))
unless-allows letter guard (trees.Const false) a = inr a
unless-allows letter guard (trees.Test atom) a = either-of (holds letter (trees.Test atom))
unless-allows letter guard (trees.Not part) a = either-of (holds letter (trees.Not part))
unless-allows letter guard (trees.And left right) a = either-of (holds letter (trees.And left right))
unless-allows letter guard (trees.Or left right) a = either-of (holds letter (trees.Or left right))

or-allows : (letter : Letter) (guard : Guard) (sibling : Positive) (g : ℕ → Truth) → IsTrue (allows letter guard)
    → IsTrue (met sibling letter g) ⊎ IsTrue (allows letter (or_guard guard sibling))
or-allows letter guard (Const value) g a = inr refl
or-allows letter guard (Holds test) g a = unless-allows letter guard test a
or-allows letter guard (Owed number) g a = inr refl
or-allows letter guard (And left right) g a = inr refl
or-allows letter guard (Or left right) g a = inr refl

any-left : (letter : Letter) (first second : List Guard) → IsTrue (list_any (allows letter) first) → IsTrue (list_any (allows letter) (first ++ second))
any-left letter first second h = list_any-append (allows letter) first second ∙ or_left (list_any (allows letter) first) (list_any (allows letter) second) h

any-right : (letter : Letter) (first second : List Guard) → IsTrue (list_any (allows letter) second) → IsTrue (list_any (allows letter) (first ++ second))
any-right letter first second h = list_any-append (allows letter) first second ∙ or_right (list_any (allows letter) first) (list_any (allows letter) second) h

-- what is met stays met by what it asks for
met-under : (delta : Positive) (letter : Letter) (guard : Guard) (f g : ℕ → Truth) → IsTrue (allows letter guard)
    → ((number : ℕ) → IsTrue (list_any (allows letter) (guards guard delta number)) → IsTrue (f number) → IsTrue (g number))
    → IsTrue (met delta letter f) → IsTrue (met delta letter g)
met-under (Const value) letter guard f g a e h = h
met-under (Holds test) letter guard f g a e h = h
met-under (Owed number) letter guard f g a e h =
    e number (ap (λ (t : Truth). list_any (allows letter) (if t then guard ∷ [] else [])) (eq-eqb number number refl) ∙ or_left (allows letter guard) false a) h
met-under (And left right) letter guard f g a e h =
    let parts = and_parts (met left letter f) (met right letter f) h in
    and_from (met left letter g) (met right letter g)
    (met-under left letter (and_guard guard right) f g (and-allows letter guard right f a parts.1)
    (λ number k. e number (any-left letter (guards (and_guard guard right) left number) (guards (and_guard guard left) right number) k)) parts.0)
    (met-under right letter (and_guard guard left) f g (and-allows letter guard left f a parts.0)
    (λ number k. e number (any-right letter (guards (and_guard guard right) left number) (guards (and_guard guard left) right number) k)) parts.1)
met-under (Or left right) letter guard f g a e h = elim (or_cases (met left letter f) (met right letter f) h) [
  | inl k ↦ elim (or-allows letter guard right g a) [
    | inl by ↦ or_right (met left letter g) (met right letter g) by
    | inr allowed ↦ or_left (met left letter g) (met right letter g) (met-under left letter (or_guard guard right) f g allowed
        (λ number l. e number (any-left letter (guards (or_guard guard right) left number) (guards (or_guard guard left) right number) l)) k)
  ]
  | inr k ↦ elim (or-allows letter guard left g a) [
    | inl by ↦ or_left (met left letter g) (met right letter g) by
    | inr allowed ↦ or_right (met left letter g) (met right letter g) (met-under right letter (or_guard guard left) f g allowed
        (λ number l. e number (any-right letter (guards (or_guard guard right) left number) (guards (or_guard guard left) right number) l)) k)
  ]
]

pub met-asked : (delta : Positive) (letter : Letter) (f g : ℕ → Truth) → ((number : ℕ) → IsTrue (asks letter delta number) → IsTrue (f number) → IsTrue (g number))
    → IsTrue (met delta letter f) → IsTrue (met delta letter g)
met-asked delta letter f g e h = met-under delta letter Always f g refl e h

-- it asks for nothing else than what it names
pub unowed : (delta : Positive) (guard : Guard) (number : ℕ) → owes delta number ≡ false → guards guard delta number ≡ []
unowed (Const value) guard number h = refl
unowed (Holds test) guard number h = refl
unowed (Owed other) guard number h = ap (λ (t : Truth). if t then guard ∷ [] else []) h
unowed (And left right) guard number h =
    let parts = or_parts (owes left number) (owes right number) h in
    ap (λ (list : List Guard). list ++ guards (and_guard guard left) right number) (unowed left (and_guard guard right) number parts.0)
    ∙ unowed right (and_guard guard left) number parts.1
unowed (Or left right) guard number h =
    let parts = or_parts (owes left number) (owes right number) h in
    ap (λ (list : List Guard). list ++ guards (or_guard guard left) right number) (unowed left (or_guard guard right) number parts.0)
    ∙ unowed right (or_guard guard left) number parts.1

-- what its guards test

abbrev pub AtomsOfGuards : (Atom → Type 0) → List Guard → Type 0
AtomsOfGuards P [] = Unit {0}
AtomsOfGuards P (guard ∷ guards) = AtomsOfGuard P guard × AtomsOfGuards P guards

if-atoms : (P : Atom → Type 0) (guard : Guard) (test : Boolean) → AtomsOfGuard P guard → AtomsOfGuard P (If test) → AtomsOfGuard P (if_test guard test)
if-atoms P guard (trees.Const true) a b = a
if-atoms P guard (trees.Const false) a b = b
if-atoms P guard (trees.Test atom) a b = b
if-atoms P guard (trees.Not part) a b = b
if-atoms P guard (trees.And left right) a b = b
if-atoms P guard (trees.Or left right) a b = b

unless-atoms : (P : Atom → Type 0) (guard : Guard) (test : Boolean) → AtomsOfGuard P guard → AtomsOfGuard P (IfNot test) → AtomsOfGuard P (unless_test guard test)
unless-atoms P guard (trees.Const true) a b = b
unless-atoms P guard (trees.Const false) a b = a
unless-atoms P guard (trees.Test atom) a b = b
unless-atoms P guard (trees.Not part) a b = b
unless-atoms P guard (trees.And left right) a b = b
unless-atoms P guard (trees.Or left right) a b = b

pub and-atoms : (P : Atom → Type 0) (guard : Guard) (sibling : Positive) → AtomsOfGuard P guard → AtomsOfPositive P sibling → AtomsOfGuard P (and_guard guard sibling)
and-atoms P guard (Const value) a b = tt
and-atoms P guard (Holds test) a b = if-atoms P guard test a b
and-atoms P guard (Owed number) a b = tt
and-atoms P guard (And left right) a b = tt
and-atoms P guard (Or left right) a b = tt

pub or-atoms : (P : Atom → Type 0) (guard : Guard) (sibling : Positive) → AtomsOfGuard P guard → AtomsOfPositive P sibling → AtomsOfGuard P (or_guard guard sibling)
or-atoms P guard (Const value) a b = tt
or-atoms P guard (Holds test) a b = unless-atoms P guard test a b
or-atoms P guard (Owed number) a b = tt
or-atoms P guard (And left right) a b = tt
or-atoms P guard (Or left right) a b = tt

both-atoms : (P : Atom → Type 0) (first second : List Guard) → AtomsOfGuards P first → AtomsOfGuards P second → AtomsOfGuards P (first ++ second)
both-atoms P [] second a b = b
both-atoms P (guard ∷ guards) second a b = (a.0, both-atoms P guards second a.1 b)

pub guards-atoms : (P : Atom → Type 0) (guard : Guard) (delta : Positive) (number : ℕ) → AtomsOfGuard P guard → AtomsOfPositive P delta → AtomsOfGuards P (guards guard delta number)
guards-atoms P guard (Const value) number a b = tt
guards-atoms P guard (Holds test) number a b = tt
guards-atoms P guard (Owed other) number a b = one (eqb other number)
  where
    one : (same : Truth) → AtomsOfGuards P (if same then guard ∷ [] else [])
    one true = (a, tt)
    one false = tt
guards-atoms P guard (And left right) number a b =
    both-atoms P (guards (and_guard guard right) left number) (guards (and_guard guard left) right number)
    (guards-atoms P (and_guard guard right) left number (and-atoms P guard right a b.1) b.0)
    (guards-atoms P (and_guard guard left) right number (and-atoms P guard left a b.0) b.1)
guards-atoms P guard (Or left right) number a b =
    both-atoms P (guards (or_guard guard right) left number) (guards (or_guard guard left) right number)
    (guards-atoms P (or_guard guard right) left number (or-atoms P guard right a b.1) b.0)
    (guards-atoms P (or_guard guard left) right number (or-atoms P guard left a b.0) b.1)

-- the terms

module _ (design : Design) (v : Assignment) (before : Option (List Truth)) (valuation : List Truth) (named : All (NamesBit design.signals) design.names)
    (is : IsPosition design.signals 0 v before valuation) where
  always : (t : Truth) → t ≡ (t && true)
  always true = refl
  always false = refl

  asking-value : (literal : ℤ) (guard : Guard) → AtomsOfGuard (AtomInRange design.names) guard
      → value v (asking_term design literal guard) ≡ (is_true v literal && allows (letter_after design.names before valuation) guard)
  asking-value literal Always atoms = always (is_true v literal)
  asking-value literal (If test) atoms =
      ap (λ (t : Truth). is_true v literal && t) (boolean-value design.signals 0 design.names v before valuation test named atoms is)
  asking-value literal (IfNot test) atoms =
      ap (λ (t : Truth). is_true v literal && not t) (boolean-value design.signals 0 design.names v before valuation test named atoms is)

  none-value : (t b : Truth) → t ≡ (t && not (b && false))
  none-value true true = refl
  none-value true false = refl
  none-value false b = refl

  more-value : (t b a n : Truth) → ((t && not (b && a)) && not (b && n)) ≡ (t && not (b && (a || n)))
  more-value true true true n = refl
  more-value true true false n = refl
  more-value true false a n = refl
  more-value false b a n = refl

  pub unless-value : (literal : ℤ) (term : Term) (list : List Guard) → AtomsOfGuards (AtomInRange design.names) list
      → value v (unless_asking design literal term list)
      ≡ (value v term && not (is_true v literal && list_any (allows (letter_after design.names before valuation)) list))
  unless-value literal term [] atoms = none-value (value v term) (is_true v literal)
  unless-value literal term (guard ∷ list) atoms =
      let any = list_any (allows (letter_after design.names before valuation)) list in
      unless-value literal (Conjunction term (Negation (asking_term design literal guard))) list atoms.1
      ∙ ap (λ (t : Truth). (value v term && not t) && not (is_true v literal && any)) (asking-value literal guard atoms.0)
      ∙ more-value (value v term) (is_true v literal) (allows (letter_after design.names before valuation) guard) any

module _ (design : Design) (n : ℕ) (named : All (NamesBit design.signals) design.names) (fits : 0 + position_width design.signals ≤ n) where
  asking-within : (literal : ℤ) (guard : Guard) → IsTrue (is_within n literal) → AtomsOfGuard (AtomInRange design.names) guard
      → IsTrue (term_within n (asking_term design literal guard))
  asking-within literal Always within atoms = within
  asking-within literal (If test) within atoms =
      and_from (is_within n literal) (term_within n (boolean_term design.signals 0 test)) within (boolean-within design.signals 0 n design.names test named atoms fits)
  asking-within literal (IfNot test) within atoms =
      and_from (is_within n literal) (term_within n (boolean_term design.signals 0 test)) within (boolean-within design.signals 0 n design.names test named atoms fits)

  pub unless-within : (literal : ℤ) (term : Term) (list : List Guard) → IsTrue (is_within n literal) → IsTrue (term_within n term) → AtomsOfGuards (AtomInRange design.names) list
      → IsTrue (term_within n (unless_asking design literal term list))
  unless-within literal term [] within already atoms = already
  unless-within literal term (guard ∷ list) within already atoms =
      unless-within literal (Conjunction term (Negation (asking_term design literal guard))) list within
      (and_from (term_within n term) (term_within n (asking_term design literal guard)) already (asking-within literal guard within atoms.0)) atoms.1
