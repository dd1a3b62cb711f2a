-- Each part accepts what its sequence describes, and has fewer states than the sequence counts.
use Rattle.std.proofs.Common.{append_assoc, append-nil, ◌≡◌, ◌⊎◌, ◌↔◌, inl, inr, ℕ, zero, suc, ◌+◌, ◌-◌, ◌*◌, ◌≤◌, ◌<◌, true, None, List, [], ◌∷◌, ◌++◌, length, map, IsTrue, refl, ap, sym, subst, ◌∙◌, arith}
use Rattle.std.proofs.lemmas.Bool.{cases_lt}
use Rattle.std.proofs.lemmas.List.{length-append, length-map}
use Rattle.psl_tree.specs.Counts.{states_of}
use Rattle.psl_tree.specs.Holds.{holds}
use Rattle.psl_tree.specs.Trees.{Boolean, Sequence, Empty, One, Concat, Fuse, Either, Both, Star, Clocked}
use Rattle.psl_tree.specs.declared.letter.Letter.{Letter}
use Rattle.psl_tree.specs.Tight.{Tight, Repeats, no_part, one_more}
use Rattle.psl_tree.specs.SequenceAutomata.{Edge}
use Rattle.psl_tree.specs.Clockless.{HasNoClock}
use Rattle.psl_tree.specs.SequenceConstruction.{Draft, draft_at, Part, part_of, empty_part, one_part, concat_part, fuse_part, either_part, both_part, star_part, joined, fused, again, state_pair, state_pairs}
use Rattle.psl_tree.proofs.SequenceSteps.{From, Within, IsClosed, Within-append, Within-wider, Steps-append, Steps-append_left, Steps-append_right, agree, same-trans, same-sym}
use Rattle.psl_tree.proofs.SequenceJoins.{joined-splits, joined-tells, again-repeats, again-tells}
use Rattle.psl_tree.proofs.SequenceEndings.{HoldsSome, either-holds, either-true, Tells, agree-tells}
use Rattle.psl_tree.proofs.SequenceFusions.{fused-splits, fused-tells}
use Rattle.psl_tree.proofs.SequenceProducts.{pair-accepts, pair-tells}
use Rattle.psl_tree.proofs.SequenceNumbers.{numbered, front, back, in_front, in_back, in_map, length-front_back, EachWithin, each-at, EachWithin-append, EachWithin-wider, EachWithin-map, joined-within, fused-within, pairs-within, state_pairs-within, length-state_pairs, state_at-state_pairs}

-- the part accepts what the sequence describes, its edges stay among its states, and these are fewer
-- than the sequence counts; what its states keep is so
pub record IsPartOf (offset : ℕ) (part : Part) (r : Sequence) : Type 0 where
  pub start_within : Within offset (offset + length part.states) part.start.edges
  pub each_within : EachWithin offset (offset + length part.states) part.states
  pub count : length part.states < states_of r
  pub start_tells : Tells (numbered offset part.states) part.start
  pub each_tells : (q : ℕ) → offset ≤ q → q < offset + length part.states → Tells (numbered offset part.states) (numbered offset part.states q)
  pub means : (xs : List Letter) → From (numbered offset part.states) part.start xs ↔ Tight None r xs

pub closed : (low high offset : ℕ) (states : List Draft) → EachWithin low high states → IsClosed low high (numbered offset states)
closed low high offset states w q l h = each-at low high states w (q - offset)

-- a number of the front or of the back
halves : (low mid high : ℕ) (P : ℕ → Type 0) → ((q : ℕ) → low ≤ q → q < mid → P q) → ((q : ℕ) → mid ≤ q → q < high → P q) → (q : ℕ) → low ≤ q → q < high → P q
halves low mid high P front back q l h = elim (cases_lt q mid) as (λ _. P q) [ inl b ↦ front q l b | inr b ↦ back q b h ]

-- what the states keep is so in two lists of states that were joined, where it is so in each
tells-halves : (f : Draft → Draft) (offset : ℕ) (xs ys : List Draft) (look : ℕ → Draft)
    → ((q : ℕ) → offset ≤ q → q < offset + length xs → look q ≡ f (numbered offset xs q))
    → ((q : ℕ) → offset + length xs ≤ q → look q ≡ numbered (offset + length xs) ys q)
    → ((q : ℕ) → offset ≤ q → q < offset + length xs → Tells look (f (numbered offset xs q)))
    → ((q : ℕ) → offset + length xs ≤ q → q < offset + length xs + length ys → Tells look (numbered (offset + length xs) ys q))
    → (q : ℕ) → offset ≤ q → q < offset + (length xs + length ys) → Tells look (look q)
tells-halves f offset xs ys look is-front is-back front-tells back-tells q l h =
    halves offset (offset + length xs) (offset + (length xs + length ys)) (λ k. Tells look (look k))
    (λ k a b. subst (λ (t : Draft). Tells look t) (sym (is-front k a b)) (front-tells k a b))
    (λ k a b. subst (λ (t : Draft). Tells look t) (sym (is-back k a)) (back-tells k a (omega arith))) q l h

empty-means : (offset : ℕ) → IsPartOf offset empty_part Empty
empty-means offset = record {
  start_within = tt;
  each_within = tt;
  count = omega arith;
  start_tells = λ x. (λ h. absurd h, λ f. absurd f);
  each_tells = λ q l h. absurd (omega arith);
  means = λ xs. (there xs, back-there xs);
} where
  look : ℕ → Draft
  look = numbered offset []

  there : (xs : List Letter) → From look empty_part.start xs → xs ≡ []
  there [] f = refl
  there (x ∷ xs) f = absurd f

  back-there : (xs : List Letter) → xs ≡ [] → From look empty_part.start xs
  back-there [] e = refl
  back-there (x ∷ xs) e = cc

one-means : (offset : ℕ) (b : Boolean) → IsPartOf offset (one_part offset b) (One b)
one-means offset b = record {
  start_within = (omega arith, omega arith, tt);
  each_within = (tt, tt);
  count = omega arith;
  start_tells = λ x. (λ h. inl (h, last), λ f. elim f as (λ _. IsTrue (holds x b)) [ inl k ↦ k.0 | inr z ↦ absurd z ]);
  each_tells = each;
  means = λ xs. (there xs, back-there xs);
} where
  part : Part
  part = one_part offset b

  look : ℕ → Draft
  look = numbered offset part.states

  first : look offset ≡ record { is_final = true; edges = []; ending = None }
  first = let here : offset - offset ≡ 0 = omega arith in ap (λ n. draft_at part.states n) here

  last : From look (look offset) []
  last = subst (λ (t : Draft). From look t []) (sym first) refl

  each : (q : ℕ) → offset ≤ q → q < offset + length part.states → Tells look (look q)
  each q l h =
      let same : offset ≡ q = omega arith in
      subst (λ (k : ℕ). Tells look (look k)) same (subst (λ (t : Draft). Tells look t) (sym first) (λ x. (λ k. absurd k, λ f. absurd f)))

  Described : List Letter → Type 0
  Described all = (x : Letter) × (all ≡ x ∷ []) × IsTrue (holds x b)

  there : (xs : List Letter) → From look part.start xs → Described xs
  there [] f = cc
  there (x ∷ []) (inl h) = (x, refl, h.0)
  there (x ∷ []) (inr h) = absurd h
  there (x ∷ y ∷ xs) (inl h) = absurd (subst (λ (t : Draft). From look t (y ∷ xs)) first h.1)
  there (x ∷ y ∷ xs) (inr h) = absurd h

  back-there : (xs : List Letter) → Described xs → From look part.start xs
  back-there xs d = subst (λ (l : List Letter). From look part.start l) (sym d.1)
      (inl (d.2, last))

-- what the two parts of a list of states need: the front's edges stay in front, and lead to the back too
concat-means : (offset : ℕ) (a b : Part) (r s : Sequence) → IsPartOf offset a r → IsPartOf (offset + length a.states) b s
    → IsPartOf offset (concat_part a b) (Concat r s)
concat-means offset a b r s p q = record {
  start_within = joined-within offset high b.start a.start next-within (wide a.start.edges p.start_within);
  each_within = EachWithin-append offset high (map f a.states) b.states
      (EachWithin-map offset mid offset high f (λ t w. joined-within offset high b.start t next-within (wide t.edges w)) a.states p.each_within)
      (EachWithin-wider mid (mid + length b.states) offset high (omega arith) (omega (arith, total)) b.states q.each_within);
  count = omega (arith, total, p.count, q.count);
  start_tells = joined-tells offset mid (numbered offset a.states) look b.start (closed offset mid offset a.states p.each_within)
      (λ k l h. front f offset a.states b.states k l h) next-tells a.start p.start_within p.start_tells;
  each_tells = each;
  means = λ xs. same-trans _ _ _
      (joined-splits offset mid (numbered offset a.states) look b.start (λ ys. Tight None s ys)
      (closed offset mid offset a.states p.each_within)
      (λ k l h. front f offset a.states b.states k l h)
      (λ ys. same-trans _ _ _ (same-sym _ _ (agree mid (mid + length b.states) (numbered mid b.states) look
      (closed mid (mid + length b.states) mid b.states q.each_within)
      (λ k l h. back f offset a.states b.states k l) b.start q.start_within ys)) (q.means ys))
      a.start p.start_within xs)
      (λ c. (c.0, c.1, c.2, (p.means c.0).0 c.3, c.4), λ c. (c.0, c.1, c.2, (p.means c.0).1 c.3, c.4));
} where
  f : Draft → Draft
  f = λ state. joined b.start state

  total : length (map f a.states ++ b.states) ≡ length a.states + length b.states
  total = length-front_back f a.states b.states

  mid : ℕ
  mid = offset + length a.states

  high : ℕ
  high = offset + length (map f a.states ++ b.states)

  look : ℕ → Draft
  look = numbered offset (map f a.states ++ b.states)

  wide : (es : List Edge) → Within offset mid es → Within offset high es
  wide es w = Within-wider offset mid offset high (omega arith) (omega (arith, total)) es w

  next-within : Within offset high b.start.edges
  next-within = Within-wider mid (mid + length b.states) offset high (omega arith) (omega (arith, total)) b.start.edges q.start_within

  later-closed : IsClosed mid (mid + length b.states) (numbered mid b.states)
  later-closed = closed mid (mid + length b.states) mid b.states q.each_within

  next-tells : Tells look b.start
  next-tells = agree-tells mid (mid + length b.states) (numbered mid b.states) look later-closed
      (λ k l h. back f offset a.states b.states k l) b.start q.start_within q.start_tells

  each : (k : ℕ) → offset ≤ k → k < offset + length (map f a.states ++ b.states) → Tells look (look k)
  each k l h = tells-halves f offset a.states b.states look
      (λ n l' h'. front f offset a.states b.states n l' h')
      (λ n l'. back f offset a.states b.states n l')
      (λ n l' h'. joined-tells offset mid (numbered offset a.states) look b.start (closed offset mid offset a.states p.each_within)
      (λ m l'' h''. front f offset a.states b.states m l'' h'') next-tells (numbered offset a.states n)
      (closed offset mid offset a.states p.each_within n l' h') (p.each_tells n l' h'))
      (λ n l' h'. agree-tells mid (mid + length b.states) (numbered mid b.states) look later-closed
      (λ m l'' h''. back f offset a.states b.states m l'') (numbered mid b.states n) (later-closed n l' h') (q.each_tells n l' h'))
      k l (omega (arith, total))

fuse-means : (offset : ℕ) (a b : Part) (r s : Sequence) → IsPartOf offset a r → IsPartOf (offset + length a.states) b s
    → IsPartOf offset (fuse_part a b) (Fuse r s)
fuse-means offset a b r s p q = record {
  start_within = fused-within offset high b.start a.start next-within (wide a.start.edges p.start_within);
  each_within = EachWithin-append offset high (map f a.states) b.states
      (EachWithin-map offset mid offset high f
      (λ t w. fused-within offset high b.start t next-within (wide t.edges w)) a.states p.each_within)
      (EachWithin-wider mid (mid + length b.states) offset high (omega arith) (omega (arith, total)) b.states q.each_within);
  count = omega (arith, total, p.count, q.count);
  start_tells = fused-tells offset mid (numbered offset a.states) look b.start (closed offset mid offset a.states p.each_within) p.each_tells
      (λ k l h. front f offset a.states b.states k l h) next-tells a.start p.start_within p.start_tells;
  each_tells = each;
  means = λ xs. same-trans _ _ _
      (fused-splits offset mid (numbered offset a.states) look b.start (λ ys. Tight None s ys)
      (closed offset mid offset a.states p.each_within)
      p.each_tells
      (λ k l h. front f offset a.states b.states k l h)
      (λ ys. same-trans _ _ _ (same-sym _ _ (agree mid (mid + length b.states) (numbered mid b.states) look
      (closed mid (mid + length b.states) mid b.states q.each_within)
      (λ k l h. back f offset a.states b.states k l) b.start q.start_within ys)) (q.means ys))
      a.start p.start_within p.start_tells xs)
      (λ c. (c.0, c.1, c.2, c.3, (p.means (c.0 ++ c.1 ∷ [])).0 c.4, c.5), λ c. (c.0, c.1, c.2, c.3, (p.means (c.0 ++ c.1 ∷ [])).1 c.4, c.5));
} where
  f : Draft → Draft
  f = λ state. fused b.start state

  total : length (map f a.states ++ b.states) ≡ length a.states + length b.states
  total = length-front_back f a.states b.states

  mid : ℕ
  mid = offset + length a.states

  high : ℕ
  high = offset + length (map f a.states ++ b.states)

  look : ℕ → Draft
  look = numbered offset (map f a.states ++ b.states)

  wide : (es : List Edge) → Within offset mid es → Within offset high es
  wide es w = Within-wider offset mid offset high (omega arith) (omega (arith, total)) es w

  next-within : Within offset high b.start.edges
  next-within = Within-wider mid (mid + length b.states) offset high (omega arith) (omega (arith, total)) b.start.edges q.start_within

  later-closed : IsClosed mid (mid + length b.states) (numbered mid b.states)
  later-closed = closed mid (mid + length b.states) mid b.states q.each_within

  next-tells : Tells look b.start
  next-tells = agree-tells mid (mid + length b.states) (numbered mid b.states) look later-closed
      (λ k l h. back f offset a.states b.states k l) b.start q.start_within q.start_tells

  each : (k : ℕ) → offset ≤ k → k < offset + length (map f a.states ++ b.states) → Tells look (look k)
  each k l h = tells-halves f offset a.states b.states look
      (λ n l' h'. front f offset a.states b.states n l' h')
      (λ n l'. back f offset a.states b.states n l')
      (λ n l' h'. fused-tells offset mid (numbered offset a.states) look b.start (closed offset mid offset a.states p.each_within) p.each_tells
      (λ m l'' h''. front f offset a.states b.states m l'' h'') next-tells (numbered offset a.states n)
      (closed offset mid offset a.states p.each_within n l' h') (p.each_tells n l' h'))
      (λ n l' h'. agree-tells mid (mid + length b.states) (numbered mid b.states) look later-closed
      (λ m l'' h''. back f offset a.states b.states m l'') (numbered mid b.states n) (later-closed n l' h') (q.each_tells n l' h'))
      k l (omega (arith, total))

either-means : (offset : ℕ) (a b : Part) (r s : Sequence) → IsPartOf offset a r → IsPartOf (offset + length a.states) b s
    → IsPartOf offset (either_part a b) (Either r s)
either-means offset a b r s p q = record {
  start_within = Within-append offset high a.start.edges b.start.edges
      (Within-wider offset mid offset high (omega arith) (omega (arith, total)) a.start.edges p.start_within)
      (Within-wider mid (mid + length b.states) offset high (omega arith) (omega (arith, total)) b.start.edges q.start_within);
  each_within = EachWithin-append offset high a.states b.states
      (EachWithin-wider offset mid offset high (omega arith) (omega (arith, total)) a.states p.each_within)
      (EachWithin-wider mid (mid + length b.states) offset high (omega arith) (omega (arith, total)) b.states q.each_within);
  count = omega (arith, total, p.count, q.count);
  start_tells = λ x. (
    λ h. (parts (x ∷ [])).1 (elim ((either-holds x a.start.ending b.start.ending).0 h) as (λ _. From look a.start (x ∷ []) ⊎ From look b.start (x ∷ [])) [
      | inl k ↦ inl ((left-tells a.start p.start_within p.start_tells x).0 k)
      | inr k ↦ inr ((right-tells b.start q.start_within q.start_tells x).0 k)
    ]),
    λ f. (either-holds x a.start.ending b.start.ending).1 (elim ((parts (x ∷ [])).0 f) as (λ _. HoldsSome x a.start.ending ⊎ HoldsSome x b.start.ending) [
      | inl k ↦ inl ((left-tells a.start p.start_within p.start_tells x).1 k)
      | inr k ↦ inr ((right-tells b.start q.start_within q.start_tells x).1 k)
    ]),
  );
  each_tells = each;
  means = λ xs. (there xs, back-there xs);
} where
  total : length (a.states ++ b.states) ≡ length a.states + length b.states
  total = length-append a.states b.states

  mid : ℕ
  mid = offset + length a.states

  high : ℕ
  high = offset + length (a.states ++ b.states)

  look : ℕ → Draft
  look = numbered offset (a.states ++ b.states)

  start : Draft
  start = (either_part a b).start

  left : (xs : List Letter) → From look a.start xs ↔ Tight None r xs
  left xs = same-trans _ _ _ (same-sym _ _ (agree offset mid (numbered offset a.states) look
      (closed offset mid offset a.states p.each_within) (λ k l h. in_front offset a.states b.states k l h) a.start p.start_within xs)) (p.means xs)

  right : (xs : List Letter) → From look b.start xs ↔ Tight None s xs
  right xs = same-trans _ _ _ (same-sym _ _ (agree mid (mid + length b.states) (numbered mid b.states) look
      (closed mid (mid + length b.states) mid b.states q.each_within) (λ k l h. in_back offset a.states b.states k l) b.start q.start_within xs)) (q.means xs)

  parts : (xs : List Letter) → From look start xs ↔ (From look a.start xs ⊎ From look b.start xs)
  parts [] = either-true a.start.is_final b.start.is_final
  parts (x ∷ xs) =
      let K : ℕ → Type 0 = λ k. From look (look k) xs in (
        Steps-append a.start.edges b.start.edges x K,
        λ h. elim h as (λ _. From look start (x ∷ xs)) [
          | inl f ↦ Steps-append_left a.start.edges b.start.edges x K f
          | inr f ↦ Steps-append_right a.start.edges b.start.edges x K f
        ],
      )

  there : (xs : List Letter) → From look start xs → Tight None r xs ⊎ Tight None s xs
  there xs f = elim ((parts xs).0 f) as (λ _. Tight None r xs ⊎ Tight None s xs) [ inl h ↦ inl ((left xs).0 h) | inr h ↦ inr ((right xs).0 h) ]

  back-there : (xs : List Letter) → Tight None r xs ⊎ Tight None s xs → From look start xs
  back-there xs (inl h) = (parts xs).1 (inl ((left xs).1 h))
  back-there xs (inr h) = (parts xs).1 (inr ((right xs).1 h))

  left-closed : IsClosed offset mid (numbered offset a.states)
  left-closed = closed offset mid offset a.states p.each_within

  right-closed : IsClosed mid (mid + length b.states) (numbered mid b.states)
  right-closed = closed mid (mid + length b.states) mid b.states q.each_within

  left-tells : (t : Draft) → Within offset mid t.edges → Tells (numbered offset a.states) t → Tells look t
  left-tells t w tells = agree-tells offset mid (numbered offset a.states) look left-closed (λ k l h. in_front offset a.states b.states k l h) t w tells

  right-tells : (t : Draft) → Within mid (mid + length b.states) t.edges → Tells (numbered mid b.states) t → Tells look t
  right-tells t w tells = agree-tells mid (mid + length b.states) (numbered mid b.states) look right-closed (λ k l h. in_back offset a.states b.states k l) t w tells

  each : (k : ℕ) → offset ≤ k → k < offset + length (a.states ++ b.states) → Tells look (look k)
  each k l h = tells-halves (λ t. t) offset a.states b.states look
      (λ n l' h'. in_front offset a.states b.states n l' h')
      (λ n l'. in_back offset a.states b.states n l')
      (λ n l' h'. left-tells (numbered offset a.states n) (left-closed n l' h') (p.each_tells n l' h'))
      (λ n l' h'. right-tells (numbered mid b.states n) (right-closed n l' h') (q.each_tells n l' h'))
      k l (omega (arith, total))

-- what each state of a list keeps is so
abbrev EachTells : (ℕ → Draft) → List Draft → Type 0
EachTells look [] = Unit {0}
EachTells look (s ∷ ss) = Tells look s × EachTells look ss

tells-at : (look : ℕ → Draft) (ss : List Draft) → EachTells look ss → (k : ℕ) → Tells look (draft_at ss k)
tells-at look [] t k = λ x. (λ h. absurd h, λ f. absurd f)
tells-at look (s ∷ ss) t zero = t.0
tells-at look (s ∷ ss) t (suc k) = tells-at look ss t.1 k

tells-each : (look : ℕ → Draft) (ss : List Draft) → ((k : ℕ) → k < length ss → Tells look (draft_at ss k)) → EachTells look ss
tells-each look [] t = tt
tells-each look (s ∷ ss) t = (t 0 (omega arith), tells-each look ss (λ k h. t (suc k) (omega arith)))

tells-append : (look : ℕ → Draft) (ss ts : List Draft) → EachTells look ss → EachTells look ts → EachTells look (ss ++ ts)
tells-append look [] ts p q = q
tells-append look (s ∷ ss) ts p q = (p.0, tells-append look ss ts p.1 q)

both-means : (offset : ℕ) (a b : Part) (r s : Sequence) → IsPartOf 0 a r → IsPartOf 0 b s → IsPartOf offset (both_part offset a b) (Both r s)
both-means offset a b r s p q = record {
  start_within = wide-edges (both_part offset a b).start.edges (pairs-within offset n m a.start.edges b.start.edges starts starts2);
  each_within = wide-states states (state_pairs-within offset n m a.states b.states states1 states2);
  count = product-below n m (states_of r) (states_of s) (length states) p.count q.count total;
  start_tells = pair-tells offset n m (numbered 0 a.states) (numbered 0 b.states) look (closed 0 n 0 a.states states1) (closed 0 m 0 b.states states2) met
      a.start b.start starts starts2 p.start_tells q.start_tells;
  each_tells = λ k l h. tells-at look states (rows a.states b.states states1 states2 firsts seconds) (k - offset);
  means = λ xs. same-trans _ _ _
      (pair-accepts offset n m (numbered 0 a.states) (numbered 0 b.states) look
      (closed 0 n 0 a.states states1) (closed 0 m 0 b.states states2) met
      a.start b.start starts starts2 xs)
      (λ c. ((p.means xs).0 c.0, (q.means xs).0 c.1), λ c. ((p.means xs).1 c.0, (q.means xs).1 c.1));
} where
  n : ℕ
  n = length a.states

  m : ℕ
  m = length b.states

  starts : Within 0 n a.start.edges
  starts = Within-wider 0 (0 + n) 0 n (omega arith) (omega arith) a.start.edges p.start_within

  starts2 : Within 0 m b.start.edges
  starts2 = Within-wider 0 (0 + m) 0 m (omega arith) (omega arith) b.start.edges q.start_within

  states1 : EachWithin 0 n a.states
  states1 = EachWithin-wider 0 (0 + n) 0 n (omega arith) (omega arith) a.states p.each_within

  states2 : EachWithin 0 m b.states
  states2 = EachWithin-wider 0 (0 + m) 0 m (omega arith) (omega arith) b.states q.each_within

  states : List Draft
  states = state_pairs offset m a.states b.states

  look : ℕ → Draft
  look = numbered offset states

  total : length states ≡ n * m
  total = length-state_pairs offset m a.states b.states

  pair-number : (o k i j i' j' : ℕ) → i' ≡ i → j' ≡ j → o + i * k + j - o ≡ i' * k + j'
  pair-number o k i j i' j' e g = rw (e, g) (omega arith)

  met : (i j : ℕ) → i < n → j < m → look (offset + i * m + j) ≡ state_pair offset m (numbered 0 a.states i) (numbered 0 b.states j)
  met i j h l = state_at-state_pairs offset m a.states b.states refl (i - 0) (j - 0) (offset + i * m + j - offset)
      (omega arith) (omega arith) (pair-number offset m i j (i - 0) (j - 0) (omega arith) (omega arith))

  firsts : EachTells (numbered 0 a.states) a.states
  firsts = tells-each (numbered 0 a.states) a.states (λ k h.
      let same : k - 0 ≡ k = omega arith in
      subst (λ (i : ℕ). Tells (numbered 0 a.states) (draft_at a.states i)) same (p.each_tells k (omega arith) (omega arith)))

  seconds : EachTells (numbered 0 b.states) b.states
  seconds = tells-each (numbered 0 b.states) b.states (λ k h.
      let same : k - 0 ≡ k = omega arith in
      subst (λ (i : ℕ). Tells (numbered 0 b.states) (draft_at b.states i)) same (q.each_tells k (omega arith) (omega arith)))

  row : (s : Draft) (ts : List Draft) → Within 0 n s.edges → EachWithin 0 m ts → Tells (numbered 0 a.states) s → EachTells (numbered 0 b.states) ts
      → EachTells look (map (λ second. state_pair offset m s second) ts)
  row s [] w v t u = tt
  row s (r ∷ ts) w v t u = (
    pair-tells offset n m (numbered 0 a.states) (numbered 0 b.states) look (closed 0 n 0 a.states states1) (closed 0 m 0 b.states states2) met s r w v.0 t u.0,
    row s ts w v.1 t u.1,
  )

  rows : (ss ts : List Draft) → EachWithin 0 n ss → EachWithin 0 m ts → EachTells (numbered 0 a.states) ss → EachTells (numbered 0 b.states) ts
      → EachTells look (state_pairs offset m ss ts)
  rows [] ts w v t u = tt
  rows (s ∷ ss) ts w v t u =
      tells-append look (map (λ second. state_pair offset m s second) ts) (state_pairs offset m ss ts)
      (row s ts w.0 v t.0 u) (rows ss ts w.1 v t.1 u)

  product-below : (i j k l t : ℕ) → i < k → j < l → t ≡ i * j → t < k * l
  product-below i j k l t h g e = grind arith

  wide-edges : (es : List Edge) → Within offset (offset + n * m) es → Within offset (offset + length states) es
  wide-edges es w = subst (λ (k : ℕ). Within offset (offset + k) es) (sym total) w

  wide-states : (ss : List Draft) → EachWithin offset (offset + n * m) ss → EachWithin offset (offset + length states) ss
  wide-states ss w = subst (λ (k : ℕ). EachWithin offset (offset + k) ss) (sym total) w

star-means : (offset : ℕ) (a : Part) (r : Sequence) → IsPartOf offset a r → IsPartOf offset (star_part a) (Star r)
star-means offset a r p = record {
  start_within = p-wide;
  each_within = subst (λ (k : ℕ). EachWithin offset (offset + k) (map f a.states)) (sym total)
      (EachWithin-map offset mid offset mid f (λ t w. joined-within offset mid (again a.start) t p.start_within w) a.states p.each_within);
  count = omega (arith, total, p.count);
  start_tells = again-told;
  each_tells = λ k l h. let within : k < mid = omega (arith, total) in
      subst (λ (t : Draft). Tells look t) (sym (in_map f offset a.states k l within))
      (joined-tells offset mid (numbered offset a.states) look (again a.start) (closed offset mid offset a.states p.each_within)
      (λ n l' h'. in_map f offset a.states n l' h') again-told (numbered offset a.states k)
      (closed offset mid offset a.states p.each_within k l within) (p.each_tells k l within));
  means = λ xs. same-trans _ _ _
      (again-repeats offset mid (numbered offset a.states) look a.start
      (closed offset mid offset a.states p.each_within) p.start_within
      (λ k l h. in_map f offset a.states k l h) xs) (
        same-repeats (From (numbered offset a.states) a.start) (λ ys. Tight None r ys) (λ ys. (p.means ys).0) xs,
        same-repeats (λ ys. Tight None r ys) (From (numbered offset a.states) a.start) (λ ys. (p.means ys).1) xs,
      );
} where
  f : Draft → Draft
  f = λ state. joined (again a.start) state

  mid : ℕ
  mid = offset + length a.states

  look : ℕ → Draft
  look = numbered offset (map f a.states)

  total : length (map f a.states) ≡ length a.states
  total = length-map a.states f

  p-wide : Within offset (offset + length (map f a.states)) a.start.edges
  p-wide = subst (λ (k : ℕ). Within offset (offset + k) a.start.edges) (sym total) p.start_within

  same-repeats : (P Q : List Letter → Type 0) → ((ys : List Letter) → P ys → Q ys) → (xs : List Letter) → Repeats P xs → Repeats Q xs
  same-repeats P Q g xs (no_part e) = no_part e
  same-repeats P Q g xs (one_more x part rest e h k) = one_more x part rest e (g (x ∷ part) h) (same-repeats P Q g rest k)

  again-told : Tells look (again a.start)
  again-told = again-tells offset mid (numbered offset a.states) look a.start (λ k l h. in_map f offset a.states k l h) p.start_within p.start_tells

-- a repetition repeated is the repetition
repeats-append : (P : List Letter → Type 0) (us vs : List Letter) → Repeats P us → Repeats P vs → Repeats P (us ++ vs)
repeats-append P us vs (no_part e) w = subst (λ (l : List Letter). Repeats P (l ++ vs)) (sym e) w
repeats-append P us vs (one_more x part rest e h k) w =
    one_more x part (rest ++ vs) (ap (λ (l : List Letter). l ++ vs) e ∙ append_assoc (x ∷ part) rest vs) h (repeats-append P rest vs k w)

repeats-once : (P : List Letter → Type 0) (xs : List Letter) → Repeats P xs → Repeats (Repeats P) xs
repeats-once P xs (no_part e) = no_part e
repeats-once P xs (one_more x part rest e h k) =
    one_more x part rest e (one_more x part [] (sym (append-nil (x ∷ part))) h (no_part refl)) (repeats-once P rest k)

repeats-flat : (P : List Letter → Type 0) (xs : List Letter) → Repeats (Repeats P) xs → Repeats P xs
repeats-flat P xs (no_part e) = no_part e
repeats-flat P xs (one_more x part rest e h k) =
    subst (λ (l : List Letter). Repeats P l) (sym e) (repeats-append P (x ∷ part) rest h (repeats-flat P rest k))

star-star : (offset : ℕ) (a : Part) (r : Sequence) → IsPartOf offset a (Star r) → IsPartOf offset a (Star (Star r))
star-star offset a r p = record {
  start_within = p.start_within;
  each_within = p.each_within;
  count = omega (arith, p.count);
  start_tells = p.start_tells;
  each_tells = p.each_tells;
  means = λ xs. same-trans _ _ _ (p.means xs) (repeats-once (λ ys. Tight None r ys) xs, repeats-flat (λ ys. Tight None r ys) xs);
}

repeated : (offset : ℕ) (r : Sequence) → IsPartOf offset (part_of offset r) r → IsPartOf offset (part_of offset (Star r)) (Star r)
repeated offset (Star r) p = star-star offset (part_of offset (Star r)) r p
repeated offset Empty p = star-means offset (part_of offset Empty) Empty p
repeated offset (One b) p = star-means offset (part_of offset (One b)) (One b) p
repeated offset (Concat r s) p = star-means offset (part_of offset (Concat r s)) (Concat r s) p
repeated offset (Fuse r s) p = star-means offset (part_of offset (Fuse r s)) (Fuse r s) p
repeated offset (Either r s) p = star-means offset (part_of offset (Either r s)) (Either r s) p
repeated offset (Both r s) p = star-means offset (part_of offset (Both r s)) (Both r s) p
repeated offset (Clocked r b) p = star-means offset (part_of offset (Clocked r b)) (Clocked r b) p

-- the part of a sequence accepts what the sequence describes
pub part-means : (offset : ℕ) (r : Sequence) → HasNoClock r → IsPartOf offset (part_of offset r) r
part-means offset Empty h = empty-means offset
part-means offset (One b) h = one-means offset b
part-means offset (Concat r s) h = concat-means offset (part_of offset r) (part_of (offset + length (part_of offset r).states) s) r s
    (part-means offset r h.0) (part-means (offset + length (part_of offset r).states) s h.1)
part-means offset (Fuse r s) h = fuse-means offset (part_of offset r) (part_of (offset + length (part_of offset r).states) s) r s
    (part-means offset r h.0) (part-means (offset + length (part_of offset r).states) s h.1)
part-means offset (Either r s) h = either-means offset (part_of offset r) (part_of (offset + length (part_of offset r).states) s) r s
    (part-means offset r h.0) (part-means (offset + length (part_of offset r).states) s h.1)
part-means offset (Both r s) h = both-means offset (part_of 0 r) (part_of 0 s) r s (part-means 0 r h.0) (part-means 0 s h.1)
part-means offset (Star r) h = repeated offset r (part-means offset r h)
part-means offset (Clocked r clock) h = absurd h
