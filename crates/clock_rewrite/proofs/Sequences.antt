-- A sequence under a clock, or under none, describes the lists that its rewritten form does.
use Rattle.std.proofs.Common.{refl, sym, ◌∙◌, ap, subst, List, [], ◌∷◌, ◌++◌, Option, None, Some, inl, inr}
use Rattle.std.specs.Prelude.{◌↔◌, ◌⊎◌}
use Rattle.clock_rewrite.proofs.Letters.{and-holds}
use Rattle.psl_tree.specs.Plain.{plain_sequence, one_at_tick}
use Rattle.psl_tree.specs.Tick.{EachHolds, IsTickWith}
use Rattle.psl_tree.specs.Tight.{Tight, Repeats, no_part, one_more}
use Rattle.psl_tree.specs.Trees.{Boolean, Sequence, Not, Empty, One, Concat, Fuse, Either, Both, Star, Clocked}
use Rattle.psl_tree.specs.declared.letter.Letter.{Letter}

repeats-each : (b : Boolean) (xs : List Letter) → Repeats (Tight None (One b)) xs → EachHolds b xs
repeats-each b xs (no_part e) = subst (λ (l : List Letter). EachHolds b l) (sym e) tt
repeats-each b xs (one_more x part rest e h more) =
    subst (λ (l : List Letter). EachHolds b l) (sym (e ∙ ap (λ (l : List Letter). l ++ rest) h.1)) (h.2, repeats-each b rest more)

each-repeats : (b : Boolean) (xs : List Letter) → EachHolds b xs → Repeats (Tight None (One b)) xs
each-repeats b [] h = no_part refl
each-repeats b (x ∷ xs) h = one_more x [] xs refl (x, refl, h.0) (each-repeats b xs h.1)

one-same : (c b : Boolean) (xs : List Letter) → Tight None (one_at_tick c b) xs ↔ IsTickWith c b xs
one-same c b xs = (there, back)
  where
    there : Tight None (one_at_tick c b) xs → IsTickWith c b xs
    there (u, v, e, waiting, (x, only, h)) =
        let parts = (and-holds (Some x) c b).0 h in
        (u, x, e ∙ ap (λ (l : List Letter). u ++ l) only, repeats-each (Not c) u waiting, parts.0, parts.1)

    back : IsTickWith c b xs → Tight None (one_at_tick c b) xs
    back (u, x, e, waiting, h, k) = (u, x ∷ [], e, each-repeats (Not c) u waiting, (x, refl, (and-holds (Some x) c b).1 (h, k)))

repeats-map : (P Q : List Letter → Type 0) → ((xs : List Letter) → P xs → Q xs) → (xs : List Letter) → Repeats P xs → Repeats Q xs
repeats-map P Q h xs (no_part e) = no_part e
repeats-map P Q h xs (one_more x part rest e p more) = one_more x part rest e (h (x ∷ part) p) (repeats-map P Q h rest more)

sum-same : {A B C D : Type 0} → A ↔ B → C ↔ D → (A ⊎ C) ↔ (B ⊎ D)
sum-same {A} {B} {C} {D} f g = (there, back)
  where
    there : A ⊎ C → B ⊎ D
    there (inl a) = inl (f.0 a)
    there (inr c) = inr (g.0 c)

    back : B ⊎ D → A ⊎ C
    back (inl b) = inl (f.1 b)
    back (inr d) = inr (g.1 d)

pub tight-same : (r : Sequence) (c : Option Boolean) (xs : List Letter) → Tight None (plain_sequence r c) xs ↔ Tight c r xs
tight-same Empty c xs = (λ h. h, λ h. h)
tight-same (One b) None xs = (λ h. h, λ h. h)
tight-same (One b) (Some c) xs = one-same c b xs
tight-same (Concat r s) c xs = (
  λ (u, v, e, p, q). (u, v, e, (tight-same r c u).0 p, (tight-same s c v).0 q),
  λ (u, v, e, p, q). (u, v, e, (tight-same r c u).1 p, (tight-same s c v).1 q),
)
tight-same (Fuse r s) c xs = (
  λ (u, l, v, e, p, q). (u, l, v, e, (tight-same r c (u ++ l ∷ [])).0 p, (tight-same s c (l ∷ v)).0 q),
  λ (u, l, v, e, p, q). (u, l, v, e, (tight-same r c (u ++ l ∷ [])).1 p, (tight-same s c (l ∷ v)).1 q),
)
tight-same (Either r s) c xs = sum-same (tight-same r c xs) (tight-same s c xs)
tight-same (Both r s) c xs = (
  λ (p, q). ((tight-same r c xs).0 p, (tight-same s c xs).0 q),
  λ (p, q). ((tight-same r c xs).1 p, (tight-same s c xs).1 q),
)
tight-same (Star r) c xs = (
  repeats-map (Tight None (plain_sequence r c)) (Tight c r) (λ ys. (tight-same r c ys).0) xs,
  repeats-map (Tight c r) (Tight None (plain_sequence r c)) (λ ys. (tight-same r c ys).1) xs,
)
tight-same (Clocked r d) c xs = tight-same r (Some d) xs
