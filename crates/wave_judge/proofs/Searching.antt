-- The search for a point: equal values at a block give equal values at the first sample, and a least count by the
-- automaton is a point.
use Rattle.std.proofs.Common.{◌≡◌, inl, inr, refl, sym, ap, subst, ◌∙◌, ℕ, zero, suc, ◌-◌, ◌*◌, ◌<◌, ◌≤◌, Bool as Truth, true, false, List, [], ◌∷◌, ◌++◌, length, map, take, drop, not, None, arith}
use Rattle.std.specs.Prelude.{◌↔◌}
use Rattle.std.proofs.lemmas.Bool.{both_ways, cases_lt}
use Rattle.std.proofs.lemmas.List.{take-take}
use mathlib.Core.Path.{fun_ext}
use Rattle.alternating.proofs.Stepping.{mapped-value, never-value, start_tells}
use Rattle.alternating.specs.Stepped.{value_at, values_of}
use Rattle.alternating_theory.specs.Obligations.{Automaton, obligation_at, value_of, value_on}
use Rattle.alternating_theory.specs.Positive.{met}
use Rattle.psl_tree.specs.Followed.{Past, Tops}
use Rattle.psl_tree.specs.Satisfaction.{Sat}
use Rattle.psl_tree.specs.Trace.{trace_of}
use Rattle.psl_tree.specs.Views.{weak}
use Rattle.psl_tree.specs.Trees.{Formula, formula_of}
use Rattle.psl_tree.specs.declared.directive.Directive.{Directive}
use Rattle.psl_tree.specs.declared.letter.Letter.{Letter}
use Rattle.vcd_reader.specs.Sampled.{Sampled, letters_of}
use Rattle.wave_judge.proofs.Samples.{all-letters, length-letters}
use Rattle.wave_judge.proofs.Settled.{stays-against, stays-for}
use Rattle.wave_judge.specs.Automaton.{Means}
use Rattle.wave_judge.specs.Settled.{IsPoint, Stays}
use Rattle.wave_judge.specs.Sides.{IsSettled, IsSpan, IsStep, is_settled, past_of, settles, values_in}
use Rattle.wave_judge.specs.Values.{IsStand, first_letters}
use Rattle.wave_judge.specs.declared.pass.Stand.{Stand}
use Rattle.wave_judge.specs.declared.search.Side.{Side}
use Rattle.wave_judge.specs.declared.search.Side.TheVariants.{Against, For}
use Rattle.wave_judge.specs.declared.search.Span.{Span}

-- the value of each obligation at the first of some letters
abbrev owed_at : Automaton → Past → List Letter → ℕ → Truth
owed_at a past xs q = value_of (obligation_at a.obligations) past (obligation_at a.obligations q) xs

owed-values : (a : Automaton) (past : Past) (xs : List Letter) → owed_at a past xs ≡ value_at (values_of a past xs)
owed-values a past xs =
    fun_ext (λ q. sym (mapped-value (λ o. value_of (obligation_at a.obligations) past o xs) (never-value (obligation_at a.obligations) past xs) a.obligations q))

-- the values at a letter depend on those behind it alone
same-before : (a : Automaton) (past : Past) (x : Letter) (xs ys : List Letter) → values_of a past xs ≡ values_of a past ys → values_of a past (x ∷ xs) ≡ values_of a past (x ∷ ys)
same-before a past x xs ys e =
    ap (λ (owed : ℕ → Truth). map (λ o. met o.delta x owed) a.obligations) (owed-values a past xs ∙ ap value_at e ∙ sym (owed-values a past ys))

same-behind : (a : Automaton) (past : Past) (front xs ys : List Letter) → values_of a past xs ≡ values_of a past ys → values_of a past (front ++ xs) ≡ values_of a past (front ++ ys)
same-behind a past [] xs ys e = e
same-behind a past (x ∷ front) xs ys e = same-before a past x (front ++ xs) (front ++ ys) (same-behind a past front xs ys e)

take-drop : (n : ℕ) (xs : List Letter) → take n xs ++ drop n xs ≡ xs
take-drop zero xs = refl
take-drop (suc n) [] = refl
take-drop (suc n) (x ∷ xs) = ap (λ l. x ∷ l) (take-drop n xs)

-- two words with the same letters before a place, and the same values there
same-value : (a : Automaton) (past : Past) (xs : List Letter) (place one two : ℕ) → place ≤ one → place ≤ two
    → values_of a past (drop place (take one xs)) ≡ values_of a past (drop place (take two xs)) → value_on a past (take one xs) ≡ value_on a past (take two xs)
same-value a past xs place one two le ge e =
    sym (start_tells a past (take one xs))
    ∙ ap (λ (l : List Truth). value_at l a.start)
    (split one le ∙ same-behind a past (take place xs) (drop place (take one xs)) (drop place (take two xs)) e ∙ sym (split two ge))
    ∙ start_tells a past (take two xs)
  where
    split : (count : ℕ) → place ≤ count → values_of a past (take count xs) ≡ values_of a past (take place xs ++ drop place (take count xs))
    split count h =
        ap (values_of a past) (sym (take-drop place (take count xs)) ∙ ap (λ (l : List Letter). l ++ drop place (take count xs)) (take-take place count xs h))

-- the values in the view that tells of a side
values-are : (side : Side) (a : Automaton) (r : Sampled) (count block : ℕ) (stand : Stand) → IsStand a r count block stand
    → values_in side stand.values ≡ values_of a (past_of side) (drop (64 * block) (first_letters r count))
values-are Against a r count block stand h = h.values.are.weak
values-are For a r count block stand h = h.values.are.strong

-- where they are those of another word at the block, it settles the verdict where that does
pub same-settled : (side : Side) (a : Automaton) (r : Sampled) (one two block : ℕ) (first second : Stand) → IsStand a r one block first → IsStand a r two block second
    → values_in side first.values ≡ values_in side second.values → is_settled side a (first_letters r one) ≡ is_settled side a (first_letters r two)
same-settled side a r one two block first second h k e =
    ap (settles side)
    (same-value a (past_of side) (letters_of r) (64 * block) one two h.values.within k.values.within
    (sym (values-are side a r one block first h) ∙ e ∙ values-are side a r two block second k))

-- the start's value at the first sample tells
pub start-settles : (side : Side) (a : Automaton) (r : Sampled) (count : ℕ) (first : Stand) → IsStand a r count 0 first
    → settles side (value_at (values_in side first.values) a.start) ≡ is_settled side a (first_letters r count)
start-settles side a r count first h =
    ap (λ (l : List Truth). settles side (value_at l a.start)) (values-are side a r count 0 first h)
    ∙ ap (settles side) (start_tells a (past_of side) (first_letters r count))

-- a stand at an equal count and block
moved : (a : Automaton) (r : Sampled) (count other block place : ℕ) (stand : Stand) → IsStand a r count block stand → count ≡ other → block ≡ place → IsStand a r other place stand
moved a r count other block place stand h e d =
    subst (λ (n : ℕ). IsStand a r other n stand) d (subst (λ (n : ℕ). IsStand a r n block stand) e h)

-- the first words, none of the samples and all of them
pub first-span : (side : Side) (a : Automaton) (r : Sampled) (samples : ℕ) (below above : Stand) → samples ≡ length r.samples
    → IsStand a r 0 0 below → IsStand a r samples 0 above → is_settled side a (first_letters r below.count) ≡ false → is_settled side a (letters_of r) ≡ true
    → IsSpan side a r (record { below = below; above = above })
first-span side a r samples below above e h k unsettled settled = record {
  ordered = omega (arith, h.counts);
  below = moved a r 0 below.count 0 below.block below h (sym h.counts) (sym h.stands);
  above = moved a r samples above.count 0 below.block above k (sym k.counts) (sym h.stands);
  unsettled = unsettled;
  settled = ap (λ n. is_settled side a (first_letters r n)) (k.counts ∙ e) ∙ ap (is_settled side a) (all-letters r) ∙ settled;
}

-- no word between the two is left
pub step-last : (side : Side) (a : Automaton) (r : Sampled) (span : Span) → IsSpan side a r span → span.above.count - span.below.count ≤ 1 → IsStep side a r span.above.count
step-last side a r span h narrow = record {
  within = h.above.values.recorded;
  settled = h.settled;
  before = λ fewer e. elim (cases_lt fewer span.below.count) as (λ _. is_settled side a (first_letters r fewer) ≡ false) [
    | inl lt ↦ (let same : span.below.count ≡ span.above.count = omega (arith, h.ordered) in
        absurd (both_ways false refl (sym h.unsettled ∙ ap (λ n. is_settled side a (first_letters r n)) same ∙ h.settled)))
    | inr ge ↦ (let same : fewer ≡ span.below.count = omega (arith, h.ordered) in
        ap (λ n. is_settled side a (first_letters r n)) same ∙ h.unsettled)
  ];
}

-- a verdict is settled by the automaton where it is by the formula
pub settled-means : (side : Side) (a : Automaton) (d : Directive) → Means a d → (xs : List Letter)
    → IsSettled side (formula_of d.formula) xs ↔ (is_settled side a xs ≡ true)
settled-means Against a d means xs = (λ against. to (value_on a Tops xs) refl against, λ is. from (value_on a Tops xs) refl is)
  where
    to : (v : Truth) → value_on a Tops xs ≡ v → (Sat (trace_of (weak xs)) (formula_of d.formula) None → ⊥) → not v ≡ true
    to true e against = absurd (against ((means.weak xs).0 e))
    to false e against = refl

    from : (v : Truth) → value_on a Tops xs ≡ v → not v ≡ true → Sat (trace_of (weak xs)) (formula_of d.formula) None → ⊥
    from true e is sat = absurd (both_ways false refl is)
    from false e is sat = both_ways false refl (sym e ∙ (means.weak xs).1 sat)
settled-means For a d means xs = ((means.strong xs).1, (means.strong xs).0)

stays : (side : Side) (f : Formula) → Stays (IsSettled side f)
stays Against f = stays-against f
stays For f = stays-for f

-- a least count by the automaton is the point
pub step-point : (side : Side) (a : Automaton) (d : Directive) (r : Sampled) (count : ℕ) → Means a d → IsStep side a r count
    → IsPoint (IsSettled side (formula_of d.formula)) (letters_of r) count
step-point side a d r count means step = record {
  within = omega (arith, step.within, length-letters r);
  settled = (settled-means side a d means (first_letters r count)).1 step.settled;
  least = least count step.before;
}
  where
    least : (count : ℕ) → ((fewer : ℕ) → suc fewer ≡ count → is_settled side a (first_letters r fewer) ≡ false)
        → (fewer : ℕ) → fewer < count → IsSettled side (formula_of d.formula) (first_letters r fewer) → ⊥
    least zero before fewer lt settled = omega arith
    least (suc last) before fewer lt settled =
        let le : fewer ≤ last = omega arith in
        let here = stays side (formula_of d.formula) (letters_of r) fewer last le settled in
        both_ways false refl (sym (before last refl) ∙ (settled-means side a d means (first_letters r last)).0 here)
