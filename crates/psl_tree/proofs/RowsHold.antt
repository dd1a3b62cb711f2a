-- The worked examples hold.
use Rattle.std.proofs.Common.{◌≡◌, refl, sym, ◌∙◌, ap, subst, ℕ, zero, suc, Bool, true, false, List, [], ◌∷◌, ◌++◌, Option, None, Some}
use Rattle.std.specs.Prelude.{◌↔◌, IsTrue}
use Rattle.std.proofs.lemmas.Bool.{false≢true, both_ways}
use Rattle.psl_tree.proofs.Traces.{behind, cut-behind, cut-tops, cut-zero, weak-followed, neutral-followed, strong-followed}
use Rattle.psl_tree.proofs.Values.{value-means}
use Rattle.psl_tree.specs.Evaluated.{HasNoSequence, value}
use Rattle.psl_tree.specs.Followed.{Past, Nothing, Tops, Bottoms, followed}
use Rattle.psl_tree.specs.Rows.{a, b, on_a, a_then_false, clash, Views, PlainRows, ClockedRows, SequenceRows}
use Rattle.psl_tree.specs.Satisfaction.{HasTightPrefix, Sat}
use Rattle.psl_tree.specs.Tight.{Tight}
use Rattle.psl_tree.specs.Trace.{Trace, trace_of, first, joined, suffix, cut}
use Rattle.psl_tree.specs.Views.{weak, neutral, strong}
use Rattle.psl_tree.specs.Holds.{holds}
use Rattle.psl_tree.specs.Trees.{Boolean, Formula, Const, Not, One, Concat, Weak, Clocked}
use Rattle.psl_tree.specs.declared.letter.Letter.{Letter}
use Rattle.psl_tree.specs.declared.letter.Letter.TheVariants.{Top, Bottom}

seen : (f : Formula) → HasNoSequence f → (xs : List Letter) (p : Past) (w : Trace) → w ≡ followed xs p → IsTrue (value f None xs p) ↔ Sat w f None
seen f s xs p w e = subst (λ (v : Trace). IsTrue (value f None xs p) ↔ Sat v f None) (sym e) (value-means f s None xs p)

-- the test computes each view of a formula without sequences
views : (f : Formula) → HasNoSequence f → (xs : List Letter) → Views f xs (value f None xs Tops) (value f None xs Nothing) (value f None xs Bottoms)
views f s xs = record {
  in_weak_view = seen f s xs Tops (trace_of (weak xs)) (weak-followed xs);
  in_neutral_view = seen f s xs Nothing (trace_of (neutral xs)) (neutral-followed xs);
  in_strong_view = seen f s xs Bottoms (trace_of (strong xs)) (strong-followed xs);
}

pub plain_rows : PlainRows
plain_rows = record {
  answered = views _ (tt, (tt, tt)) _;
  unanswered = views _ (tt, (tt, tt)) _;
  unanswered_weak = views _ (tt, (tt, tt)) _;
  missed = views _ (tt, (tt, tt)) _;
  came = views _ (tt, tt) _;
  now_on_nothing = views _ tt _;
  eventually_on_nothing = views _ (tt, tt) _;
  aborted = views _ (tt, tt) _;
}

pub clocked_rows : ClockedRows
clocked_rows = record {
  aborted_between_ticks = views _ (tt, tt) _;
  aborted_at_ticks_alone = views _ (tt, tt) _;
  default_clock = views _ (tt, tt) _;
}

-- an answer yes, and an answer no

yes-of : {A : Type 0} → A → IsTrue true ↔ A
yes-of h = (λ _. h, λ _. refl)

no-of : {A : Type 0} → (A → ⊥) → IsTrue false ↔ A
no-of n = (λ e. absurd (false≢true e), λ h. absurd (n h))

-- what the views of a formula are on the words that follow
record Seen (f : Formula) (xs : List Letter) (w n s : Bool) : Type 0 where
  with_tops : IsTrue w ↔ Sat (followed xs Tops) f None
  with_nothing : IsTrue n ↔ Sat (followed xs Nothing) f None
  with_bottoms : IsTrue s ↔ Sat (followed xs Bottoms) f None

views-of : (f : Formula) (xs : List Letter) (w n s : Bool) → Seen f xs w n s → Views f xs w n s
views-of f xs w n s h = record {
  in_weak_view = subst (λ (v : Trace). IsTrue w ↔ Sat v f None) (sym (weak-followed xs)) h.with_tops;
  in_neutral_view = subst (λ (v : Trace). IsTrue n ↔ Sat v f None) (sym (neutral-followed xs)) h.with_nothing;
  in_strong_view = subst (λ (v : Trace). IsTrue s ↔ Sat v f None) (sym (strong-followed xs)) h.with_bottoms;
}

-- lists of two letters

joined-front : (o : Option Letter) (rest : List Letter) (x : Letter) (ys : List Letter) → joined o rest ≡ x ∷ ys → (o ≡ Some x) × (rest ≡ ys)
joined-front None rest x ys e = absurd (let wrong : [] ≡ x ∷ ys = e in cc)
joined-front (Some l) rest x ys e = (let same : l ∷ rest ≡ x ∷ ys = e in cc, let same : l ∷ rest ≡ x ∷ ys = e in cc)

second : (j : ℕ) (v : Trace) (x y : Letter) → first (suc j) v ≡ x ∷ y ∷ [] → v 1 ≡ Some y
second zero v x y e = absurd (let wrong : [] ≡ y ∷ [] = (joined-front (v 0) [] x (y ∷ []) e).1 in cc)
second (suc j) v x y e =
    (joined-front (v 1) (first j (suffix (suffix v 1) 1)) y [] (joined-front (v 0) (first (suc j) (suffix v 1)) x (y ∷ []) e).1).0

-- a list of one letter with p and one with q
pair : (p q : Boolean) (all : List Letter) → Tight None (Concat (One p) (One q)) all
    → (x : Letter) × (y : Letter) × (all ≡ x ∷ y ∷ []) × IsTrue (holds x p) × IsTrue (holds y q)
pair p q all (u, v, e, (x, a, h), (y, b, k)) = (x, y, let e' : all ≡ u ++ v = e in (rw (a, b) at e'), h, k)

no-pair : (p q : Boolean) (v : Trace) (y : Letter) → v 1 ≡ Some y → holds y q ≡ false → HasTightPrefix v (Concat (One p) (One q)) None → ⊥
no-pair p q v y e n h = h (λ j u. at (first (suc j) v) j refl (pair p q (first (suc j) v) u.1))
  where
    at : (all : List Letter) (j : ℕ) → first (suc j) v ≡ all → ((x : Letter) × (z : Letter) × (all ≡ x ∷ z ∷ []) × IsTrue (holds x p) × IsTrue (holds z q)) → ⊥
    at all j f (x, z, a, _, k) =
        let there : v 1 ≡ Some z = second j v x z (f ∙ a) in
        let same : z ≡ y = cc in
        both_ways (holds y q) n (subst (λ (l : Letter). IsTrue (holds l q)) same k)

-- {a;false} on one letter

-- the letter, and then Top: a list of one letter with a and one with false
tight-then-top : HasTightPrefix (behind on_a (followed [] Tops)) (Concat (One a) (One (Const false))) None
tight-then-top none = none 1 (refl, (on_a ∷ [], Top ∷ [], refl, (on_a, refl, refl), (Top, refl, refl)))

cut-then-top : (p : Past) (j : ℕ) → cut (followed [] p) j ≡ followed [] Tops → cut (followed (on_a ∷ []) p) (suc j) ≡ behind on_a (followed [] Tops)
cut-then-top p j e = cut-behind on_a [] p j ∙ ap (behind on_a) e

one_letter-tops : Sat (followed (on_a ∷ []) Tops) a_then_false None
one_letter-tops j _ = subst (λ (v : Trace). HasTightPrefix v (Concat (One a) (One (Const false))) None) (sym (cut-then-top Tops j (cut-tops j))) tight-then-top

one_letter-nothing : Sat (followed (on_a ∷ []) Nothing) a_then_false None
one_letter-nothing zero _ = subst (λ (v : Trace). HasTightPrefix v (Concat (One a) (One (Const false))) None)
    (sym (cut-then-top Nothing 0 (cut-zero (followed [] Nothing)))) tight-then-top
one_letter-nothing (suc j) e = absurd (false≢true e)

one_letter-bottoms : Sat (followed (on_a ∷ []) Bottoms) a_then_false None → ⊥
one_letter-bottoms h = no-pair a (Const false) (cut (followed (on_a ∷ []) Bottoms) 2) Bottom refl refl (h 1 refl)

-- {a;false} on two letters

two_letters-any : (p : Past) → Sat (followed (on_a ∷ on_a ∷ []) p) a_then_false None → ⊥
two_letters-any p h = no-pair a (Const false) (cut (followed (on_a ∷ on_a ∷ []) p) 2) on_a refl refl (h 1 refl)

-- {a} && {b;true}

no-clash : (v : Trace) → HasTightPrefix v clash None → ⊥
no-clash v h = h (λ j u. at (first (suc j) v) u.1)
  where
    at : (all : List Letter) → Tight None clash all → ⊥
    at all ((x, one, _), two) = apart x all one (pair b (Const true) all two)
      where
        apart : (x : Letter) (all : List Letter) → all ≡ x ∷ []
            → ((y : Letter) × (z : Letter) × (all ≡ y ∷ z ∷ []) × IsTrue (holds y b) × IsTrue (holds z (Const true))) → ⊥
        apart x all one (y, z, more, _, _) = let wrong : x ∷ [] ≡ y ∷ z ∷ [] = sym one ∙ more in cc

-- under the clock `true` two letters Top are a tick, so both parts have a list of two letters
clocked-tops : HasTightPrefix (followed [] Tops) (Clocked clash (Const true)) None
clocked-tops none = none 1 (
  refl,
  (
    (Top ∷ [], Top, refl, (refl, tt), refl, refl),
    (Top ∷ [], Top ∷ [], refl, ([], Top, refl, tt, refl, refl), ([], Top, refl, tt, refl, refl)),
  ),
)

-- no tick begins with Bottom
bottom-tick : (clock test : Boolean) (rest : List Letter) → Tight (Some clock) (One test) (Bottom ∷ rest) → ⊥
bottom-tick clock test rest ([], last, e, _, h, _) =
    let same : last ≡ Bottom = cc in
    both_ways false refl (subst (λ (l : Letter). IsTrue (holds l clock)) same h)
bottom-tick clock test rest (y ∷ ys, last, e, h, _, _) =
    let same : y ≡ Bottom = cc in
    both_ways false refl (subst (λ (l : Letter). IsTrue (holds l (Not clock))) same h.0)

clocked-bottoms : HasTightPrefix (cut (followed [] Bottoms) 1) (Clocked clash (Const true)) None → ⊥
clocked-bottoms h = h (λ j u. bottom-tick (Const true) a (first j (suffix (cut (followed [] Bottoms) 1) 1)) u.1.0)

pub sequence_rows : SequenceRows
sequence_rows = record {
  one_letter = views-of a_then_false (on_a ∷ []) true true false
      (record { with_tops = yes-of one_letter-tops; with_nothing = yes-of one_letter-nothing; with_bottoms = no-of one_letter-bottoms });
  two_letters = views-of a_then_false (on_a ∷ on_a ∷ []) false false false
      (record { with_tops = no-of (two_letters-any Tops); with_nothing = no-of (two_letters-any Nothing); with_bottoms = no-of (two_letters-any Bottoms) });
  clash_on_nothing = views-of (Weak clash) [] false true false
      (record {
        with_tops = no-of (λ h. no-clash (cut (followed [] Tops) 1) (h 0 refl));
        with_nothing = yes-of (λ j e. absurd (false≢true e));
        with_bottoms = no-of (λ h. no-clash (cut (followed [] Bottoms) 1) (h 0 refl));
      });
  clocked_clash_on_nothing = views-of (Weak (Clocked clash (Const true))) [] true true false
      (record {
        with_tops = yes-of (λ j _. subst (λ (v : Trace). HasTightPrefix v (Clocked clash (Const true)) None) (sym (cut-tops (suc j))) clocked-tops);
        with_nothing = yes-of (λ j e. absurd (false≢true e));
        with_bottoms = no-of (λ h. clocked-bottoms (h 0 refl));
      });
}
