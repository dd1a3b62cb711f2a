-- What more holds of a trace: where each Boolean that holds at a place of one trace holds there in
-- another, and the other way round for the duals, what the first satisfies the second satisfies.
use Rattle.std.proofs.Common.{◌≡◌, inl, inr, refl, sym, ◌∙◌, subst, ℕ, zero, suc, ◌+◌, ◌≤◌, ◌<◌, Bool as Truth, true, false, List, [], ◌∷◌, Option, None, Some, arith}
use Rattle.std.specs.Prelude.{IsTrue, nat_lt, if◌then◌else◌, is_some}
use Rattle.std.proofs.lemmas.Bool.{both_ways, lt-ltb, ltb-true}
use mathlib.Core.Path.{fun_ext}
use Rattle.psl_tree.specs.Clockless.{HasNoClock, IsPlain}
use Rattle.psl_tree.specs.Followed.{Tops, Bottoms, followed}
use Rattle.psl_tree.specs.Satisfaction.{Sat, HasTightPrefix}
use Rattle.psl_tree.specs.Tight.{Tight}
use Rattle.psl_tree.specs.Trace.{Trace, suffix, dual_letter, dual_at, dual, cut, joined, first, is_place, holds_where, holds_at}
use Rattle.psl_tree.proofs.Choice.{exists-map}
use Rattle.psl_tree.proofs.Traces.{dual_at-twice}
use Rattle.psl_tree.specs.Holds.{holds}
use Rattle.psl_tree.specs.Trees.{Boolean, Sequence, Formula, Now, NowStrong, Weak, Strong, Not, And, Next, Until, Suffix, Abort, SyncAbort, Clocked}
use Rattle.psl_tree.specs.declared.letter.Letter.{Letter}
use Rattle.psl_tree.specs.declared.letter.Letter.TheVariants.{Top, Bottom}
use Rattle.psl_tree.specs.SequenceAutomata.{Edge, State, state_at, Steps, AcceptsFrom, SomeOf}
use Rattle.psl_tree.specs.SequenceConstruction as sequences
use Rattle.psl_tree.specs.SequenceConstruction.{nfa_of}
use Rattle.psl_tree.proofs.SequenceAutomata.{finished-accepts}
use Rattle.psl_tree.proofs.SequenceMeans.{part-means}

-- the same places; what holds at a place of v holds there in w, and of the dual of w in that of v
pub record Below (v w : Trace) : Type 0 where
  pub same : (k : ℕ) → is_place v k ≡ is_place w k
  pub more : (k : ℕ) (b : Boolean) → IsTrue (holds_at v k b) → IsTrue (holds_at w k b)
  pub less : (k : ℕ) (b : Boolean) → IsTrue (holds_at (dual w) k b) → IsTrue (holds_at (dual v) k b)

pub below-suffix : (v w : Trace) (i : ℕ) → Below v w → Below (suffix v i) (suffix w i)
below-suffix v w i u = record { same = λ k. u.same (i + k); more = λ k b h. u.more (i + k) b h; less = λ k b h. u.less (i + k) b h }

pub below-dual : (v w : Trace) → Below v w → Below (dual w) (dual v)
below-dual v w u = record {
  same = λ k. dual-place (w k) ∙ sym (u.same k) ∙ sym (dual-place (v k));
  more = u.less;
  less = λ k b h. subst (λ (o : Option Letter). IsTrue (holds_where o b)) (sym (dual_at-twice (w k)))
      (u.more k b (subst (λ (o : Option Letter). IsTrue (holds_where o b)) (dual_at-twice (v k)) h));
}
  where
    dual-place : (o : Option Letter) → is_some (dual_at o) ≡ is_some o
    dual-place None = refl
    dual-place (Some x) = refl

-- letters on which more holds
abbrev pub LessLetter : Letter → Letter → Type 0
LessLetter x y = (b : Boolean) → (IsTrue (holds x b) → IsTrue (holds y b)) × (IsTrue (holds (dual_letter y) b) → IsTrue (holds (dual_letter x) b))

pub less-same : (x y : Letter) → x ≡ y → LessLetter x y
less-same x y e b = (λ h. subst (λ (z : Letter). IsTrue (holds z b)) e h, λ h. subst (λ (z : Letter). IsTrue (holds (dual_letter z) b)) (sym e) h)

pub less-top : (x y : Letter) → y ≡ Top → LessLetter x y
less-top x y e b = (
  λ h. subst (λ (z : Letter). IsTrue (holds z b)) (sym e) refl,
  λ h. absurd (both_ways false refl (subst (λ (z : Letter). IsTrue (holds (dual_letter z) b)) e h)),
)

pub bottom-less : (x y : Letter) → x ≡ Bottom → LessLetter x y
bottom-less x y e b = (
  λ h. absurd (both_ways false refl (subst (λ (z : Letter). IsTrue (holds z b)) e h)),
  λ h. subst (λ (z : Letter). IsTrue (holds (dual_letter z) b)) (sym e) refl,
)

pub below-letters : (l m : ℕ → Letter) → ((k : ℕ) → LessLetter (l k) (m k)) → Below (λ k. Some (l k)) (λ k. Some (m k))
below-letters l m u = record { same = λ k. refl; more = λ k b h. (u k b).0 h; less = λ k b h. (u k b).1 h }

-- each endless trace lies below Top for ever, and above Bottom for ever
pub below-tops : (l : ℕ → Letter) → Below (λ k. Some (l k)) (followed [] Tops)
below-tops l = below-letters l (λ k. Top) (λ k. less-top (l k) Top refl)

pub above-bottoms : (l : ℕ → Letter) → Below (followed [] Bottoms) (λ k. Some (l k))
above-bottoms l = below-letters (λ k. Bottom) l (λ k. bottom-less Bottom (l k) refl)

-- an endless trace that is cut
abbrev pub cut-letter : (ℕ → Letter) → ℕ → ℕ → Letter
cut-letter l j k = if nat_lt k j then l k else Top

pub cut-letters : (l : ℕ → Letter) (j : ℕ) → cut (λ k. Some (l k)) j ≡ (λ k. Some (cut-letter l j k))
cut-letters l j = fun_ext (λ k. at k (nat_lt k j))
  where
    at : (k : ℕ) (b : Truth) → (if b then Some (l k) else Some Top) ≡ Some (if b then l k else Top)
    at k true = refl
    at k false = refl

-- cut later, less holds
pub cut-later : (l : ℕ → Letter) (i j : ℕ) → i ≤ j → Below (cut (λ k. Some (l k)) j) (cut (λ k. Some (l k)) i)
cut-later l i j h =
    subst (λ (v : Trace). Below v (cut (λ k. Some (l k)) i)) (sym (cut-letters l j))
    (subst (λ (v : Trace). Below (λ k. Some (cut-letter l j k)) v) (sym (cut-letters l i))
    (below-letters (cut-letter l j) (cut-letter l i) (λ k. at k (nat_lt k i) refl)))
  where
    at : (k : ℕ) (b : Truth) → nat_lt k i ≡ b → LessLetter (if nat_lt k j then l k else Top) (if b then l k else Top)
    at k false e = less-top (if nat_lt k j then l k else Top) Top refl
    at k true e =
        let m : k < j = omega (arith, ltb-true k i e, h) in
        less-same (if nat_lt k j then l k else Top) (l k) (rw (lt-ltb k j m) refl)

-- both cut at one place
pub below-cut : (v w : Trace) (j : ℕ) → Below v w → Below (cut v j) (cut w j)
below-cut v w j u = record {
  same = λ k. same k (nat_lt k j);
  more = λ k b h. more k b (nat_lt k j) h;
  less = λ k b h. less k b (nat_lt k j) h;
}
  where
    same : (k : ℕ) (t : Truth) → is_some (if t then v k else Some Top) ≡ is_some (if t then w k else Some Top)
    same k true = u.same k
    same k false = refl

    more : (k : ℕ) (b : Boolean) (t : Truth) → IsTrue (holds_where (if t then v k else Some Top) b) → IsTrue (holds_where (if t then w k else Some Top) b)
    more k b true h = u.more k b h
    more k b false h = h

    less : (k : ℕ) (b : Boolean) (t : Truth) → IsTrue (holds_where (dual_at (if t then w k else Some Top)) b) → IsTrue (holds_where (dual_at (if t then v k else Some Top)) b)
    less k b true h = u.less k b h
    less k b false h = h

-- lists of letters on which more holds

abbrev pub EachMore : List Letter → List Letter → Type 0
EachMore [] [] = Unit {0}
EachMore [] (_ ∷ _) = ⊥
EachMore (_ ∷ _) [] = ⊥
EachMore (x ∷ xs) (y ∷ ys) = ((b : Boolean) → IsTrue (holds x b) → IsTrue (holds y b)) × EachMore xs ys

pub first-more : (n : ℕ) (v w : Trace) → Below v w → EachMore (first n v) (first n w)
first-more zero v w u = tt
first-more (suc n) v w u = at (v 0) (w 0) (u.same 0) (λ b h. u.more 0 b h) (first-more n (suffix v 1) (suffix w 1) (below-suffix v w 1 u))
  where
    at : (o p : Option Letter) → is_some o ≡ is_some p → ((b : Boolean) → IsTrue (holds_where o b) → IsTrue (holds_where p b))
        → EachMore (first n (suffix v 1)) (first n (suffix w 1)) → EachMore (joined o (first n (suffix v 1))) (joined p (first n (suffix w 1)))
    at None None e f m = tt
    at None (Some y) e f m = absurd (both_ways false refl e)
    at (Some x) None e f m = absurd (both_ways false refl (sym e))
    at (Some x) (Some y) e f m = (f, m)

-- a path stays a path
steps-more : (es : List Edge) (x y : Letter) (P Q : ℕ → Type 0) → ((b : Boolean) → IsTrue (holds x b) → IsTrue (holds y b)) → ((q : ℕ) → P q → Q q) → Steps es x P → Steps es y Q
steps-more [] x y P Q m f s = s
steps-more (e ∷ es) x y P Q m f (inl h) = inl (m e.label h.0, f e.target h.1)
steps-more (e ∷ es) x y P Q m f (inr s) = inr (steps-more es x y P Q m f s)

pub accepts-more : (states : List State) (xs ys : List Letter) → EachMore xs ys → (q : ℕ) → AcceptsFrom states q xs → AcceptsFrom states q ys
accepts-more states [] [] m q h = h
accepts-more states [] (y ∷ ys) m q h = absurd m
accepts-more states (x ∷ xs) [] m q h = absurd m
accepts-more states (x ∷ xs) (y ∷ ys) m q h =
    steps-more (state_at states q).edges x y (λ r. AcceptsFrom states r xs) (λ r. AcceptsFrom states r ys) m.0 (λ r k. accepts-more states xs ys m.1 r k) h

pub tight-more : (r : Sequence) → HasNoClock r → (xs ys : List Letter) → EachMore xs ys → Tight None r xs → Tight None r ys
tight-more r n xs ys m t =
    (finished-accepts (sequences.part_of 0 r) r (part-means 0 r n) ys).0
    (some (nfa_of r).initial ((finished-accepts (sequences.part_of 0 r) r (part-means 0 r n) xs).1 t))
  where
    some : (ns : List ℕ) → SomeOf ns (λ q. AcceptsFrom (nfa_of r).states q xs) → SomeOf ns (λ q. AcceptsFrom (nfa_of r).states q ys)
    some [] s = s
    some (q ∷ ns) (inl h) = inl (accepts-more (nfa_of r).states xs ys m q h)
    some (q ∷ ns) (inr s) = inr (some ns s)

pub prefix-more : (r : Sequence) → HasNoClock r → (v w : Trace) → Below v w → HasTightPrefix v r None → HasTightPrefix w r None
prefix-more r n v w u h = exists-map (λ j t. (sym (u.same j) ∙ t.0, tight-more r n (first (suc j) v) (first (suc j) w) (first-more (suc j) v w u) t.1)) h

-- what a trace satisfies, a trace on which more holds satisfies
pub raised : (f : Formula) → IsPlain f → (v w : Trace) → Below v w → Sat v f None → Sat w f None
raised (NowStrong b) n v w u h = u.more 0 b h
raised (Now b) n v w u h = λ p. u.more 0 b (h (u.same 0 ∙ p))
raised (Strong r) n v w u h = prefix-more r n v w u h
raised (Weak r) n v w u h = λ j p. prefix-more r n (cut v (suc j)) (cut w (suc j)) (below-cut v w (suc j) u) (h j (u.same j ∙ p))
raised (Not f) n v w u h = λ k. h (raised f n (dual w) (dual v) (below-dual v w u) k)
raised (And f g) n v w u h = (raised f n.0 v w u h.0, raised g n.1 v w u h.1)
raised (Next f) n v w u h = (sym (u.same 1) ∙ h.0, raised f n (suffix v 1) (suffix w 1) (below-suffix v w 1 u) h.1)
raised (Until f g) n v w u h = exists-map (λ k t. (
  sym (u.same k) ∙ t.0,
  raised g n.1 (suffix v k) (suffix w k) (below-suffix v w k u) t.1,
  λ j l. raised f n.0 (suffix v j) (suffix w j) (below-suffix v w j u) (t.2 j l),
)) h
raised (Suffix r f) n v w u h = λ j p t. raised f n.1 (suffix v j) (suffix w j) (below-suffix v w j u)
    (h j (u.same j ∙ p) (tight-more r n.0 (first (suc j) (dual w)) (first (suc j) (dual v)) (first-more (suc j) (dual w) (dual v) (below-dual v w u)) t))
raised (Abort f b) n v w u h = λ a c. h (λ k. a (raised f n v w u k))
    (λ e. c (exists-map (λ j t. (u.more j b t.0, raised f n (cut v j) (cut w j) (below-cut v w j u) t.1)) e))
raised (SyncAbort f b) n v w u h = absurd n
raised (Clocked f b) n v w u h = absurd n
