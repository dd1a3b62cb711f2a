-- An automaton whose states that are alike are one reads the same lists.
use Rattle.std.proofs.Common.{◌≡◌, ◌↔◌, inl, inr, refl, sym, ap, ◌∙◌, subst, ℕ, zero, suc, ◌+◌, ◌-◌, ◌<◌, ◌≤◌, ◌^◌, Bool as Truth, false, List, [], ◌∷◌, ◌++◌, length, map, replicate, get_or, All, arith}
use Rattle.std.specs.Prelude.{IsTrue, ◌==◌, if◌then◌else◌, slice_index}
use Rattle.std.proofs.lemmas.Bool.{cases_lt, cases_eq, both_ways, eq-eqb}
use Rattle.std.proofs.lemmas.Bool.Decides.{nat_tests}
use Rattle.std.proofs.lemmas.List.{length-append, length-map, get_or_append_left, get_or-map, get_or_default}
use Rattle.std.proofs.lemmas.List.Elements.{All-nil}
use Rattle.std.proofs.Math.Seq.{get_or-append_seam}
use Rattle.psl_tree.specs.Trees.{Const}
use Rattle.psl_tree.specs.declared.letter.Letter.{Letter}
use Rattle.psl_tree.specs.declared.letter.Letter.TheVariants.{Top}
use Rattle.psl_tree.specs.SequenceAutomata.{Edge, State, no_state, state_at, Steps, AcceptsFrom, ReachesEnd, LeadsWithin, IsSound}
use Rattle.sere_nfa.specs.Views.{edge_of, edges_of}
use Rattle.sere_nfa.specs.declared.edge.NfaEdge.{NfaEdge}
use Rattle.lasso_judge.specs.Arrows.{edge_at}
use Rattle.lasso_judge.specs.Merging.{led, kept_at, merged_at, merged_below, IsAlive, IsClass, AreClasses, IsMerged, MergedAlive}
use Rattle.lasso_judge.specs.MergedView.{shown_of, states_shown}
use Rattle.lasso_tables.specs.Tables.{value_at}
use Rattle.lasso_judge.specs.declared.merged.MergedState.{MergedState}

pub shown-merged : (states : List MergedState) (i : ℕ) (d : MergedState) → i < length states → shown_of (get_or states i d) ≡ state_at (states_shown states) i
shown-merged [] i d h = absurd (omega arith)
shown-merged (s ∷ states) zero d h = refl
shown-merged (s ∷ states) (suc i) d h = shown-merged states i d (omega arith)

state-left : (xs ys : List State) (q : ℕ) → q < length xs → state_at (xs ++ ys) q ≡ state_at xs q
state-left [] ys q l = absurd (omega arith)
state-left (x ∷ xs) ys zero l = refl
state-left (x ∷ xs) ys (suc q) l = state-left xs ys q (omega arith)

state-seam : (xs : List State) (y : State) (q : ℕ) → q ≡ length xs → state_at (xs ++ y ∷ []) q ≡ y
state-seam [] y zero e = refl
state-seam [] y (suc q) e = absurd (omega arith)
state-seam (x ∷ xs) y zero e = absurd (omega arith)
state-seam (x ∷ xs) y (suc q) e = state-seam xs y q (omega arith)

state-past : (xs : List State) (q : ℕ) → length xs ≤ q → state_at xs q ≡ no_state
state-past [] q l = refl
state-past (x ∷ xs) zero l = absurd (omega arith)
state-past (x ∷ xs) (suc q) l = state-past xs q (omega arith)

pub length-merged : (classes : List ℕ) (states : List State) (n : ℕ) → length (merged_below classes states n) ≡ n
length-merged classes states zero = refl
length-merged classes states (suc n) = omega (arith, length-append (merged_below classes states n) (merged_at classes states n ∷ []), length-merged classes states n)

merged-at : (classes : List ℕ) (states : List State) (n q : ℕ) → q < n → state_at (merged_below classes states n) q ≡ merged_at classes states q
merged-at classes states zero q l = absurd (omega arith)
merged-at classes states (suc n) q l = elim (cases_lt q n) as (λ _. state_at (merged_below classes states (suc n)) q ≡ merged_at classes states q) [
  | inl k ↦ state-left (merged_below classes states n) (merged_at classes states n ∷ []) q (omega (arith, length-merged classes states n, k)) ∙ merged-at classes states n q k
  | inr k ↦ (let e : q ≡ n = omega arith in
      state-seam (merged_below classes states n) (merged_at classes states n) q (omega (arith, length-merged classes states n, e)) ∙ ap (λ j. merged_at classes states j) (sym e))
]

other : (a b : ℕ) → (a ≡ b → ⊥) → (a == b) ≡ false
other a b h = grind (arith, nat_tests)

-- states that are alike read the same lists
alike-reads : (states : List State) (p q : ℕ) → state_at states p ≡ state_at states q → (xs : List Letter) → AcceptsFrom states p xs ↔ AcceptsFrom states q xs
alike-reads states p q e [] = (subst (λ (s : State). IsTrue s.is_final) e, subst (λ (s : State). IsTrue s.is_final) (sym e))
alike-reads states p q e (x ∷ xs) = (
  subst (λ (s : State). Steps s.edges x (λ t. AcceptsFrom states t xs)) e,
  subst (λ (s : State). Steps s.edges x (λ t. AcceptsFrom states t xs)) (sym e),
)

-- each edge leads below a bound
abbrev Below : ℕ → List Edge → Type 0
Below n [] = Unit {0}
Below n (e ∷ es) = (e.target < n) × Below n es

below-edges : (n : ℕ) (es : List Edge) → ((k : ℕ) → k < length es → (get_or es k (record { label = Const false; target = 0 })).target < n) → Below n es
below-edges n [] h = tt
below-edges n (e ∷ es) h = (h 0 (omega arith), below-edges n es (λ k l. h (suc k) (omega arith)))

led-there : (classes : List ℕ) (n : ℕ) (es : List Edge) (x : Letter) (P Q : ℕ → Type 0) → Below n es → ((t : ℕ) → t < n → P (slice_index classes t) → Q t)
    → Steps (map (λ (e : Edge). led classes e) es) x P → Steps es x Q
led-there classes n [] x P Q b f s = s
led-there classes n (e ∷ es) x P Q b f (inl h) = inl (h.0, f e.target b.0 h.1)
led-there classes n (e ∷ es) x P Q b f (inr s) = inr (led-there classes n es x P Q b.1 f s)

led-back : (classes : List ℕ) (n : ℕ) (es : List Edge) (x : Letter) (P Q : ℕ → Type 0) → Below n es → ((t : ℕ) → t < n → Q t → P (slice_index classes t))
    → Steps es x Q → Steps (map (λ (e : Edge). led classes e) es) x P
led-back classes n [] x P Q b f s = s
led-back classes n (e ∷ es) x P Q b f (inl h) = inl (h.0, f e.target b.0 h.1)
led-back classes n (e ∷ es) x P Q b f (inr s) = inr (led-back classes n es x P Q b.1 f s)

module _ (initial : List ℕ) (states : List State) (classes : List ℕ) (are : AreClasses states (length states) classes) (sound : IsSound (record { initial = initial; states = states })) where
  class-below : (q : ℕ) → q < length states → slice_index classes q < length states
  class-below q l = omega (arith, l, (are.each q l).below)

  -- the state that stands for another stands for itself
  class-first : (q : ℕ) → q < length states → slice_index classes (slice_index classes q) ≡ slice_index classes q
  class-first q l = elim (cases_lt (slice_index classes q) q) as (λ _. slice_index classes (slice_index classes q) ≡ slice_index classes q) [
    | inl k ↦ (are.each q l).first k
    | inr k ↦ (let b = (are.each q l).below in let e : slice_index classes q ≡ q = omega (arith, b, k) in ap (λ j. slice_index classes j) e)
  ]

  within : (q : ℕ) → Below (length states) (state_at states q).edges
  within q = below-edges (length states) (state_at states q).edges (λ k l. (sound.targets_below q k (record { label = Const false; target = 0 }) l).1)

  kept : (q : ℕ) → q < length states → slice_index classes q ≡ q
      → state_at (merged_below classes states (length states)) q ≡ kept_at classes states q
  kept q l e = merged-at classes states (length states) q l
      ∙ ap (λ (b : Truth). if b then kept_at classes states q else no_state) (eq-eqb (slice_index classes q) q e)

  dropped : (q : ℕ) → q < length states → (slice_index classes q ≡ q → ⊥) → state_at (merged_below classes states (length states)) q ≡ no_state
  dropped q l d = merged-at classes states (length states) q l
      ∙ ap (λ (b : Truth). if b then kept_at classes states q else no_state) (other (slice_index classes q) q d)

  pub same-reads : (xs : List Letter) (q : ℕ) → q < length states → slice_index classes q ≡ q
      → AcceptsFrom (merged_below classes states (length states)) q xs ↔ AcceptsFrom states q xs
  same-reads [] q l e = (
    λ h. subst (λ (s : State). IsTrue s.is_final) (kept q l e) h,
    λ h. subst (λ (s : State). IsTrue s.is_final) (sym (kept q l e)) h,
  )
  same-reads (x ∷ xs) q l e = (
    λ h. led-there classes (length states) (state_at states q).edges x (λ t. AcceptsFrom (merged_below classes states (length states)) t xs) (λ t. AcceptsFrom states t xs) (within q)
        (λ t m g. (alike-reads states (slice_index classes t) t (are.each t m).alike xs).0 ((same-reads xs (slice_index classes t) (class-below t m) (class-first t m)).0 g))
        (subst (λ (s : State). Steps s.edges x (λ t. AcceptsFrom (merged_below classes states (length states)) t xs)) (kept q l e) h),
    λ h. subst (λ (s : State). Steps s.edges x (λ t. AcceptsFrom (merged_below classes states (length states)) t xs)) (sym (kept q l e))
        (led-back classes (length states) (state_at states q).edges x (λ t. AcceptsFrom (merged_below classes states (length states)) t xs) (λ t. AcceptsFrom states t xs) (within q)
        (λ t m g. (same-reads xs (slice_index classes t) (class-below t m) (class-first t m)).1 ((alike-reads states (slice_index classes t) t (are.each t m).alike xs).1 g)) h),
  )

  none-read : (q : ℕ) → state_at (merged_below classes states (length states)) q ≡ no_state → (xs : List Letter) → AcceptsFrom (merged_below classes states (length states)) q xs → ⊥
  none-read q e [] h = both_ways false refl (subst (λ (s : State). IsTrue s.is_final) e h)
  none-read q e (x ∷ xs) h = absurd (subst (λ (s : State). Steps s.edges x (λ t. AcceptsFrom (merged_below classes states (length states)) t xs)) e h)

  -- the automaton is merged
  pub merged-whole : (new : List State) → new ≡ merged_below classes states (length states) → 0 < length states → IsMerged states new
  merged-whole new e some = subst (λ (ss : List State). IsMerged states ss) (sym e) (record {
    same_length = length-merged classes states (length states);
    same_lists = λ xs. same-reads xs (length states - 1) (omega arith) ((are.each (length states - 1) (omega arith)).last (omega arith));
  })

  led-below : (q : ℕ) (es : List Edge) → LeadsWithin 0 (length states) es → LeadsWithin 0 (length states) (map (λ (e : Edge). led classes e) es)
  led-below q es h k d l =
      let m : k < length es = omega (arith, l, length-map es (λ (e : Edge). led classes e)) in
      let none : Edge = record { label = Const false; target = 0 } in
      let is : get_or (map (λ (e : Edge). led classes e) es) k d ≡ led classes (get_or es k none) =
      get_or_default (map (λ (e : Edge). led classes e) es) k d (led classes none) l ∙ get_or-map (λ (e : Edge). led classes e) es k none (led classes none) m in
      subst (λ (e : Edge). (0 ≤ e.target) × (e.target < length states)) (sym is) (omega arith, class-below (get_or es k none).target (h k none m).1)

  pub merged-sound : (new : List State) → new ≡ merged_below classes states (length states) → IsSound (record { initial = []; states = new })
  merged-sound new e = subst (λ (ss : List State). IsSound (record { initial = []; states = ss })) (sym e) (record {
    initial_below = All-nil (λ n. n < length (merged_below classes states (length states)));
    targets_below = λ q. subst (λ n. LeadsWithin 0 n (state_at (merged_below classes states (length states)) q).edges) (sym (length-merged classes states (length states))) (edges-within q);
  })
    where
      edges-within : (q : ℕ) → LeadsWithin 0 (length states) (state_at (merged_below classes states (length states)) q).edges
      edges-within q = elim (cases_lt q (length states)) as (λ _. LeadsWithin 0 (length states) (state_at (merged_below classes states (length states)) q).edges) [
        | inr k ↦ subst (λ (s : State). LeadsWithin 0 (length states) s.edges) (sym (state-past (merged_below classes states (length states)) q (omega (arith, k, length-merged classes states (length states)))))
            (All-nil (λ (e : Edge). (0 ≤ e.target) × (e.target < length states)))
        | inl k ↦ elim (cases_eq (slice_index classes q) q) as (λ _. LeadsWithin 0 (length states) (state_at (merged_below classes states (length states)) q).edges) [
          | inl c ↦ subst (λ (s : State). LeadsWithin 0 (length states) s.edges) (sym (kept q k c)) (led-below q (state_at states q).edges (sound.targets_below q))
          | inr d ↦ subst (λ (s : State). LeadsWithin 0 (length states) s.edges) (sym (dropped q k d)) (All-nil (λ (e : Edge). (0 ≤ e.target) × (e.target < length states)))
        ]
      ]

  -- marks of the states that stand for themselves are those of the merged automaton
  pub merged-alive : (new : List State) (marks : List Truth) → new ≡ merged_below classes states (length states) → MergedAlive states classes (length states) marks
      → (q : ℕ) → q < length states → IsTrue (value_at marks q) ↔ ReachesEnd new q
  merged-alive new marks e alive q l = subst (λ (ss : List State). IsTrue (value_at marks q) ↔ ReachesEnd ss q) (sym e) (elim (cases_eq (slice_index classes q) q)
      as (λ _. IsTrue (value_at marks q) ↔ ReachesEnd (merged_below classes states (length states)) q) [
        | inl c ↦ (
          λ h. let r = ((alive.exact q l).kept c).0 h in (r.0, (same-reads (replicate r.0 Top) q l c).1 r.1),
          λ h. ((alive.exact q l).kept c).1 (h.0, (same-reads (replicate h.0 Top) q l c).0 h.1),
        )
        | inr d ↦ (
          λ h. absurd (both_ways (value_at marks q) ((alive.exact q l).dropped d) h),
          λ h. absurd (none-read q (dropped q l d) (replicate h.0 Top) h.1),
        )
      ])

-- one state more has its number
pub class_push : (states : List State) (n : ℕ) (classes : List ℕ) (class : ℕ) → AreClasses states n classes → IsClass states classes n class → AreClasses states (n + 1) (classes ++ class ∷ [])
class_push states n classes class are is = record {
  same_length = omega (arith, length-append classes (class ∷ []), are.same_length);
  each = λ q l. elim (cases_lt q n) as (λ _. IsClass states (classes ++ class ∷ []) q (slice_index (classes ++ class ∷ []) q)) [
    | inl k ↦ subst (λ c. IsClass states (classes ++ class ∷ []) q c) (sym (get_or_append_left classes (class ∷ []) 0 q (omega (arith, k, are.same_length)))) (longer q (slice_index classes q) (omega arith) (are.each q k))
    | inr k ↦ (let e : q ≡ length classes = omega (arith, l, k, are.same_length) in
        let f : n ≡ q = omega (arith, l, k) in
        subst (λ c. IsClass states (classes ++ class ∷ []) q c)
        (sym (ap (λ j. slice_index (classes ++ class ∷ []) j) e ∙ get_or-append_seam classes class [] 0))
        (longer q class (omega arith) (subst (λ j. IsClass states classes j class) f is)))
  ];
}
  where
    longer : (q c : ℕ) → q ≤ n → IsClass states classes q c → IsClass states (classes ++ class ∷ []) q c
    longer q c l is = record {
      below = is.below;
      first = λ k. get_or_append_left classes (class ∷ []) 0 c (omega (arith, k, l, are.same_length)) ∙ is.first k;
      alike = is.alike;
      last = is.last;
    }

pub class_none : (states : List State) → AreClasses states 0 []
class_none states = record { same_length = refl; each = λ q l. absurd (omega arith) }

pub class_self : (states : List State) (classes : List ℕ) (state : ℕ) → IsClass states classes state state
class_self states classes state = record { below = omega arith; first = λ l. absurd (omega arith); alike = refl; last = λ _. refl }

pub class_found : (states : List State) (classes : List ℕ) (state earlier : ℕ) → earlier < state → slice_index classes earlier ≡ earlier
    → state_at states earlier ≡ state_at states state → (suc state ≡ length states → ⊥) → IsClass states classes state earlier
class_found states classes state earlier l e same d = record { below = omega arith; first = λ _. e; alike = same; last = λ z. absurd (d z) }

-- so many first edges are equal
pub record AreSame (left right : List NfaEdge) (count : ℕ) : Type 0 where
  pub same_length : length left ≡ length right
  pub each : (j : ℕ) → j < count → edge_at (edges_of left) j ≡ edge_at (edges_of right) j

edges-equal : (es fs : List Edge) → length es ≡ length fs → ((j : ℕ) → j < length es → edge_at es j ≡ edge_at fs j) → es ≡ fs
edges-equal [] [] e h = refl
edges-equal [] (f ∷ fs) e h = absurd (omega arith)
edges-equal (e ∷ es) [] l h = absurd (omega arith)
edges-equal (e ∷ es) (f ∷ fs) l h = ap (λ (x : Edge). x ∷ es) (h 0 (omega arith)) ∙ ap (λ (xs : List Edge). f ∷ xs) (edges-equal es fs (omega arith) (λ j m. h (suc j) (omega arith)))

pub edges_start : (left right : List NfaEdge) → length left ≡ length right → AreSame left right 0
edges_start left right e = record { same_length = e; each = λ j l. absurd (omega arith) }

pub edges_same : (left right : List NfaEdge) → AreSame left right (length left) → edges_of left ≡ edges_of right
edges_same left right are = edges-equal (edges_of left) (edges_of right) (length-map left edge_of ∙ (are.same_length ∙ sym (length-map right edge_of)))
    (λ j l. are.each j (omega (arith, l, length-map left edge_of)))

edge-shown : (es : List NfaEdge) (n : ℕ) (a : NfaEdge) → n < length es → a ≡ get_or es n a → edge_at (edges_of es) n ≡ edge_of a
edge-shown es n a l e = get_or_default (edges_of es) n (record { label = Const false; target = 0 }) (edge_of a) (omega (arith, l, length-map es edge_of))
    ∙ (get_or-map edge_of es n a (edge_of a) l ∙ ap edge_of (sym e))

pub edges_more : (left right : List NfaEdge) (n : ℕ) (a b : NfaEdge) → AreSame left right n → n < length left → n < length right → a ≡ get_or left n a → b ≡ get_or right n b
    → edge_of a ≡ edge_of b → AreSame left right (n + 1)
edges_more left right n a b are l m e f same = record {
  same_length = are.same_length;
  each = λ j k. elim (cases_lt j n) as (λ _. edge_at (edges_of left) j ≡ edge_at (edges_of right) j) [
    | inl o ↦ are.each j o
    | inr o ↦ (let is : n ≡ j = omega (arith, k, o) in
        subst (λ i. edge_at (edges_of left) i ≡ edge_at (edges_of right) i) is (edge-shown left n a l e ∙ (same ∙ sym (edge-shown right n b m f))))
  ];
}

-- numbers that stand for states are small
pub classes-small : (states : List State) (classes : List ℕ) → AreClasses states (length states) classes → length states < 2 ^ 32 → All (λ c. c < 2 ^ 32) classes
classes-small states classes are few k d l =
    let m : k < length states = omega (arith, l, are.same_length) in
    let b = (are.each k m).below in
    subst (λ c. c < 2 ^ 32) (get_or_default classes k 0 d l) (omega (arith, b, m, few))

-- one state more has its mark
pub alive_none : (states : List State) (classes : List ℕ) → MergedAlive states classes 0 []
alive_none states classes = record { same_length = refl; exact = λ q l. absurd (omega arith) }

pub alive_push : (states : List State) (classes : List ℕ) (n : ℕ) (marks : List Truth) (mark : Truth) → MergedAlive states classes n marks → IsAlive states classes n mark
    → MergedAlive states classes (n + 1) (marks ++ mark ∷ [])
alive_push states classes n marks mark are is = record {
  same_length = omega (arith, length-append marks (mark ∷ []), are.same_length);
  exact = λ q l. elim (cases_lt q n) as (λ _. IsAlive states classes q (value_at (marks ++ mark ∷ []) q)) [
    | inl k ↦ subst (λ (b : Truth). IsAlive states classes q b) (sym (get_or_append_left marks (mark ∷ []) false q (omega (arith, k, are.same_length)))) (are.exact q k)
    | inr k ↦ (let e : q ≡ length marks = omega (arith, l, k, are.same_length) in
        let f : n ≡ q = omega (arith, l, k) in
        subst (λ (b : Truth). IsAlive states classes q b) (sym (ap (λ j. value_at (marks ++ mark ∷ []) j) e ∙ get_or-append_seam marks mark [] false))
        (subst (λ j. IsAlive states classes j mark) f is))
  ];
}

-- what a merged automaton keeps, from the lists that the program made
pub whole-of : (initial : List ℕ) (states : List State) (classes one two : List ℕ) (new : List MergedState) (marks : List Truth) → IsSound (record { initial = initial; states = states })
    → AreClasses states (length states) classes → one ≡ classes → two ≡ classes → states_shown new ≡ merged_below one states (length states) → MergedAlive states two (length states) marks → 0 < length states
    → IsSound (record { initial = []; states = states_shown new }) × (length marks ≡ length new)
    × ((q : ℕ) → q < length new → IsTrue (value_at marks q) ↔ ReachesEnd (states_shown new) q) × IsMerged states (states_shown new)
whole-of initial states classes one two new marks sound are e f made alive some =
    let made' : states_shown new ≡ merged_below classes states (length states) = made ∙ ap (λ (cs : List ℕ). merged_below cs states (length states)) e in
    let alive' : MergedAlive states classes (length states) marks = subst (λ (cs : List ℕ). MergedAlive states cs (length states) marks) f alive in
    let same : length new ≡ length states = sym (length-map new shown_of) ∙ (ap (λ (ss : List State). length ss) made' ∙ length-merged classes states (length states)) in (
      merged-sound initial states classes are sound (states_shown new) made',
      alive'.same_length ∙ sym same,
      λ q l. merged-alive initial states classes are sound (states_shown new) marks made' alive' q (omega (arith, l, same)),
      merged-whole initial states classes are sound (states_shown new) made' some,
    )
