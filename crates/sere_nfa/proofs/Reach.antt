-- The search for the states from which a final state is reached is exact.
use Rattle.std.specs.List.{AllByRecursion}
use Rattle.std.proofs.lemmas.List.Elements.{All-from_recursion}
use Rattle.std.proofs.Common.{All, append_assoc, append-nil, ◌≡◌, ◌⊎◌, ◌↔◌, inl, inr, ℕ, zero, suc, ◌+◌, ◌<◌, Bool as Truth, true, false, nat_eq, if◌then◌else◌, List, [], ◌∷◌, ◌++◌, length, replicate, get_or, set, slice_set, IsTrue, refl, ap, sym, subst, ◌∙◌, arith}
use Rattle.std.proofs.lemmas.List.{get_or-set_same, get_or-set_other, length-append}
use Rattle.std.proofs.Math.ListN.{length-set}
use Rattle.psl_tree.specs.declared.letter.Letter.TheVariants.{Top}
use Rattle.psl_tree.specs.SequenceAutomata.{Edge, State, state_at, Steps, AcceptsFrom, ReachesEnd}
use Rattle.sere_nfa.specs.Marking.{is_marked, MarksAlive, sources_in, sources_from, AddsSources, finals_from, Marking, visit, visit_all}
use Rattle.psl_tree.proofs.SequenceSteps.{never}
use Rattle.std.proofs.lemmas.Bool.{eq-eqb, cases_eq}
use Rattle.std.proofs.lemmas.Bool.Decides.{nat_tests}

-- the number stands in the list
abbrev pub Member : ℕ → List ℕ → Type 0
Member q [] = ⊥
Member q (n ∷ ns) = (q ≡ n) ⊎ Member q ns

member-append : (q : ℕ) (ms ns : List ℕ) → Member q (ms ++ ns) ↔ (Member q ms ⊎ Member q ns)
member-append q ms ns = (there ms, back ms) where
  there : (ms : List ℕ) → Member q (ms ++ ns) → Member q ms ⊎ Member q ns
  there [] h = inr h
  there (m ∷ ms) (inl e) = inl (inl e)
  there (m ∷ ms) (inr h) = elim (there ms h) as (λ _. Member q (m ∷ ms) ⊎ Member q ns) [ inl k ↦ inl (inr k) | inr k ↦ inr k ]

  back : (ms : List ℕ) → Member q ms ⊎ Member q ns → Member q (ms ++ ns)
  back [] (inl h) = absurd h
  back [] (inr h) = h
  back (m ∷ ms) (inl (inl e)) = inl e
  back (m ∷ ms) (inl (inr h)) = inr (back ms (inl h))
  back (m ∷ ms) (inr h) = inr (back ms (inr h))

same_number : (a b : ℕ) → IsTrue (nat_eq a b) → a ≡ b
same_number a b h = grind (arith, nat_tests)

-- an edge leads to the target
abbrev pub Leads : List Edge → ℕ → Type 0
Leads [] t = ⊥
Leads (e ∷ es) t = (e.target ≡ t) ⊎ Leads es t

-- the sources are those states from which an edge leads to the target
here-member : (b : Truth) (q n : ℕ) → Member q (if b then n ∷ [] else []) ↔ (IsTrue b × (q ≡ n))
here-member true q n = (λ h. elim h as (λ _. IsTrue true × (q ≡ n)) [ inl e ↦ (refl, e) | inr k ↦ absurd k ], λ h. inl h.1)
here-member false q n = (λ h. absurd h, λ h. absurd (never h.0))

sources_in-member : (q n t : ℕ) (es : List Edge) → Member q (sources_in n t es) ↔ ((q ≡ n) × Leads es t)
sources_in-member q n t es = (there es, λ h. back es h.0 h.1) where
  there : (es : List Edge) → Member q (sources_in n t es) → (q ≡ n) × Leads es t
  there [] h = absurd h
  there (e ∷ es) h = elim ((member-append q (if nat_eq e.target t then n ∷ [] else []) (sources_in n t es)).0 h) as (λ _. (q ≡ n) × Leads (e ∷ es) t) [
    | inl k ↦ let m = (here-member (nat_eq e.target t) q n).0 k in (m.1, inl (same_number e.target t m.0))
    | inr k ↦ let m = there es k in (m.0, inr m.1)
  ]

  back : (es : List Edge) → q ≡ n → Leads es t → Member q (sources_in n t es)
  back [] e l = absurd l
  back (f ∷ es) e (inl l) = (member-append q (if nat_eq f.target t then n ∷ [] else []) (sources_in n t es)).1 (inl ((here-member (nat_eq f.target t) q n).1 (eq-eqb f.target t l, e)))
  back (f ∷ es) e (inr l) = (member-append q (if nat_eq f.target t then n ∷ [] else []) (sources_in n t es)).1 (inr (back es e l))

sources-there : (q n t : ℕ) (ss : List State) → Member q (sources_from n t ss) → (j : ℕ) × (q ≡ n + j) × Leads (state_at ss j).edges t
sources-there q n t [] h = absurd h
sources-there q n t (s ∷ ss) h =
    elim ((member-append q (sources_in n t s.edges) (sources_from (suc n) t ss)).0 h) as (λ _. (j : ℕ) × (q ≡ n + j) × Leads (state_at (s ∷ ss) j).edges t) [
      | inl k ↦ let m = (sources_in-member q n t s.edges).0 k in (0, omega (arith, m.0), m.1)
      | inr k ↦ let m = sources-there q (suc n) t ss k in (suc m.0, omega (arith, m.1), m.2)
    ]

sources-back : (q n t : ℕ) (ss : List State) (j : ℕ) → q ≡ n + j → Leads (state_at ss j).edges t → Member q (sources_from n t ss)
sources-back q n t [] j e l = absurd l
sources-back q n t (s ∷ ss) zero e l =
    (member-append q (sources_in n t s.edges) (sources_from (suc n) t ss)).1 (inl ((sources_in-member q n t s.edges).1 (omega arith, l)))
sources-back q n t (s ∷ ss) (suc j) e l =
    (member-append q (sources_in n t s.edges) (sources_from (suc n) t ss)).1 (inr (sources-back q (suc n) t ss j (omega arith) l))

pub sources-member : (q t : ℕ) (ss : List State) → Member q (sources_from 0 t ss) ↔ Leads (state_at ss q).edges t
sources-member q t ss = (
  λ h. let m = sources-there q 0 t ss h in let same : m.0 ≡ q = omega (arith, m.1) in subst (λ (j : ℕ). Leads (state_at ss j).edges t) same m.2,
  λ l. sources-back q 0 t ss q (omega arith) l,
)

finals-there : (q n : ℕ) (ss : List State) → Member q (finals_from n ss) → (j : ℕ) × (q ≡ n + j) × IsTrue (state_at ss j).is_final
finals-there q n [] h = absurd h
finals-there q n (s ∷ ss) h =
    elim ((member-append q (if s.is_final then n ∷ [] else []) (finals_from (suc n) ss)).0 h) as (λ _. (j : ℕ) × (q ≡ n + j) × IsTrue (state_at (s ∷ ss) j).is_final) [
      | inl k ↦ let m = (here-member s.is_final q n).0 k in (0, omega (arith, m.1), m.0)
      | inr k ↦ let m = finals-there q (suc n) ss k in (suc m.0, omega (arith, m.1), m.2)
    ]

finals-back : (q n : ℕ) (ss : List State) (j : ℕ) → q ≡ n + j → IsTrue (state_at ss j).is_final → Member q (finals_from n ss)
finals-back q n [] j e l = absurd (never l)
finals-back q n (s ∷ ss) zero e l =
    (member-append q (if s.is_final then n ∷ [] else []) (finals_from (suc n) ss)).1 (inl ((here-member s.is_final q n).1 (l, omega arith)))
finals-back q n (s ∷ ss) (suc j) e l =
    (member-append q (if s.is_final then n ∷ [] else []) (finals_from (suc n) ss)).1 (inr (finals-back q (suc n) ss j (omega arith) l))

finals-member : (q : ℕ) (ss : List State) → Member q (finals_from 0 ss) ↔ IsTrue (state_at ss q).is_final
finals-member q ss = (
  λ h. let m = finals-there q 0 ss h in let same : m.0 ≡ q = omega (arith, m.1) in subst (λ (j : ℕ). IsTrue (state_at ss j).is_final) same m.2,
  λ l. finals-back q 0 ss q (omega arith) l,
)

-- how many states are not marked yet
abbrev pub unmarked : List Truth → ℕ
unmarked [] = 0
unmarked (true ∷ marks) = unmarked marks
unmarked (false ∷ marks) = suc (unmarked marks)

-- what is left to be done: each state that is not marked yet may wait once
abbrev pub work : Marking → ℕ
work marking = unmarked marking.marks + length marking.waiting

-- a state that was visited: what changed from one marking to the next
pub record Visits (old new : Marking) (numbers : List ℕ) : Type 0 where
  pub same_length : length new.marks ≡ length old.marks
  pub stay : (q : ℕ) → IsTrue (is_marked old.marks q) → IsTrue (is_marked new.marks q)
  pub marks_all : (q : ℕ) → Member q numbers → IsTrue (is_marked new.marks q)
  pub marks_only : (q : ℕ) → IsTrue (is_marked new.marks q) → IsTrue (is_marked old.marks q) ⊎ Member q numbers
  pub still_wait : (q : ℕ) → Member q old.waiting → Member q new.waiting
  pub new_wait : (q : ℕ) → IsTrue (is_marked new.marks q) → IsTrue (is_marked old.marks q) ⊎ Member q new.waiting
  pub wait_only : (q : ℕ) → Member q new.waiting → Member q old.waiting ⊎ Member q numbers
  pub same_work : work new ≡ work old

unmarked-set : (marks : List Truth) (n : ℕ) → n < length marks → is_marked marks n ≡ false → unmarked marks ≡ suc (unmarked (set marks n true))
unmarked-set [] n h e = absurd (omega arith)
unmarked-set (true ∷ marks) zero h e = cc
unmarked-set (false ∷ marks) zero h e = refl
unmarked-set (true ∷ marks) (suc n) h e = unmarked-set marks n (omega arith) e
unmarked-set (false ∷ marks) (suc n) h e = ap (λ k. suc k) (unmarked-set marks n (omega arith) e)

visits-none : (m : Marking) → Visits m m []
visits-none m = record {
  same_length = refl;
  stay = λ q h. h;
  marks_all = λ q h. absurd h;
  marks_only = λ q h. inl h;
  still_wait = λ q h. h;
  new_wait = λ q h. inl h;
  wait_only = λ q h. inl h;
  same_work = refl;
}

-- one state is visited
visits-one : (m : Marking) (n : ℕ) → n < length m.marks → (b : Truth) → is_marked m.marks n ≡ b
    → Visits m (if b then m else record { marks = slice_set m.marks n true; waiting = m.waiting ++ n ∷ [] }) (n ∷ [])
visits-one m n h true e = record {
  same_length = refl;
  stay = λ q k. k;
  marks_all = λ q k. elim k as (λ _. IsTrue (is_marked m.marks q)) [ inl s ↦ subst (λ (j : ℕ). IsTrue (is_marked m.marks j)) (sym s) e | inr a ↦ absurd a ];
  marks_only = λ q k. inl k;
  still_wait = λ q k. k;
  new_wait = λ q k. inl k;
  wait_only = λ q k. inl k;
  same_work = refl;
}
visits-one m n h false e = record {
  same_length = length-set m.marks n true;
  stay = stay;
  marks_all = λ q k. elim k as (λ _. IsTrue (is_marked marks q)) [ inl s ↦ subst (λ (j : ℕ). IsTrue (is_marked marks j)) (sym s) here | inr a ↦ absurd a ];
  marks_only = λ q k. elim (only q k) as (λ _. IsTrue (is_marked m.marks q) ⊎ Member q (n ∷ [])) [ inl a ↦ inl a | inr s ↦ inr (inl s) ];
  still_wait = λ q k. (member-append q m.waiting (n ∷ [])).1 (inl k);
  new_wait = λ q k. elim (only q k) as (λ _. IsTrue (is_marked m.marks q) ⊎ Member q (m.waiting ++ n ∷ [])) [
    | inl a ↦ inl a
    | inr s ↦ inr ((member-append q m.waiting (n ∷ [])).1 (inr (inl s)))
  ];
  wait_only = λ q k. (member-append q m.waiting (n ∷ [])).0 k;
  same_work = omega (arith, unmarked-set m.marks n h e, length-append m.waiting (n ∷ []));
} where
  marks : List Truth
  marks = set m.marks n true

  here : is_marked marks n ≡ true
  here = get_or-set_same m.marks n true false h

  only : (q : ℕ) → IsTrue (is_marked marks q) → IsTrue (is_marked m.marks q) ⊎ (q ≡ n)
  only q k = elim (cases_eq q n) as (λ _. IsTrue (is_marked m.marks q) ⊎ (q ≡ n)) [
    | inl s ↦ inr s
    | inr d ↦ inl (sym (get_or-set_other m.marks n q true false d) ∙ k)
  ]

  stay : (q : ℕ) → IsTrue (is_marked m.marks q) → IsTrue (is_marked marks q)
  stay q k = elim (cases_eq q n) as (λ _. IsTrue (is_marked marks q)) [
    | inl s ↦ subst (λ (j : ℕ). IsTrue (is_marked marks j)) (sym s) here
    | inr d ↦ get_or-set_other m.marks n q true false d ∙ k
  ]

visits-more : (a b c : Marking) (n : ℕ) (ns : List ℕ) → Visits a b (n ∷ []) → Visits b c ns → Visits a c (n ∷ ns)
visits-more a b c n ns v w = record {
  same_length = w.same_length ∙ v.same_length;
  stay = λ q k. w.stay q (v.stay q k);
  marks_all = λ q k. elim k as (λ _. IsTrue (is_marked c.marks q)) [ inl s ↦ w.stay q (v.marks_all q (inl s)) | inr r ↦ w.marks_all q r ];
  marks_only = λ q k. elim (w.marks_only q k) as (λ _. IsTrue (is_marked a.marks q) ⊎ Member q (n ∷ ns)) [
    | inl h ↦ elim (v.marks_only q h) as (λ _. IsTrue (is_marked a.marks q) ⊎ Member q (n ∷ ns)) [
      | inl g ↦ inl g
      | inr g ↦ inr (elim g as (λ _. Member q (n ∷ ns)) [ inl s ↦ inl s | inr z ↦ absurd z ])
    ]
    | inr h ↦ inr (inr h)
  ];
  still_wait = λ q k. w.still_wait q (v.still_wait q k);
  new_wait = λ q k. elim (w.new_wait q k) as (λ _. IsTrue (is_marked a.marks q) ⊎ Member q c.waiting) [
    | inl h ↦ elim (v.new_wait q h) as (λ _. IsTrue (is_marked a.marks q) ⊎ Member q c.waiting) [ inl g ↦ inl g | inr g ↦ inr (w.still_wait q g) ]
    | inr h ↦ inr h
  ];
  wait_only = λ q k. elim (w.wait_only q k) as (λ _. Member q a.waiting ⊎ Member q (n ∷ ns)) [
    | inl h ↦ elim (v.wait_only q h) as (λ _. Member q a.waiting ⊎ Member q (n ∷ ns)) [
      | inl g ↦ inl g
      | inr g ↦ inr (elim g as (λ _. Member q (n ∷ ns)) [ inl s ↦ inl s | inr z ↦ absurd z ])
    ]
    | inr h ↦ inr (inr h)
  ];
  same_work = w.same_work ∙ v.same_work;
}

-- each number is one of a state
abbrev pub EachBelow : ℕ → List ℕ → Type 0
EachBelow high [] = Unit {0}
EachBelow high (n ∷ ns) = (n < high) × EachBelow high ns

pub visits-all : (m : Marking) (ns : List ℕ) → EachBelow (length m.marks) ns → Visits m (visit_all m ns) ns
visits-all m [] h = visits-none m
visits-all m (n ∷ ns) h =
    let one : Visits m (visit m n) (n ∷ []) = visits-one m n h.0 (is_marked m.marks n) refl in
    visits-more m (visit m n) (visit_all (visit m n) ns) n ns one
    (visits-all (visit m n) ns (subst (λ (k : ℕ). EachBelow k ns) (sym one.same_length) h.1))

-- what the search keeps: marked states reach the end, and a state from which an edge leads to a
-- marked one is marked, or that one waits
pub record IsSearch (states : List State) (m : Marking) : Type 0 where
  pub same_length : length m.marks ≡ length states
  pub reach : (q : ℕ) → IsTrue (is_marked m.marks q) → ReachesEnd states q
  pub closed : (q t : ℕ) → Leads (state_at states q).edges t → IsTrue (is_marked m.marks t) → IsTrue (is_marked m.marks q) ⊎ Member t m.waiting
  pub wait_marked : (q : ℕ) → Member q m.waiting → IsTrue (is_marked m.marks q)
  pub finals : (q : ℕ) → IsTrue (state_at states q).is_final → IsTrue (is_marked m.marks q)

-- an edge to a state that reaches the end
step-top : (states : List State) (es : List Edge) (t : ℕ) (P : ℕ → Type 0) → Leads es t → P t → Steps es Top P
step-top states [] t P l p = absurd l
step-top states (e ∷ es) t P (inl s) p = inl (refl, subst P (sym s) p)
step-top states (e ∷ es) t P (inr l) p = inr (step-top states es t P l p)

step-back : (es : List Edge) (P : ℕ → Type 0) → Steps es Top P → (t : ℕ) × Leads es t × P t
step-back [] P s = absurd s
step-back (e ∷ es) P (inl h) = (e.target, inl refl, h.1)
step-back (e ∷ es) P (inr s) = let r = step-back es P s in (r.0, inr r.1, r.2)

reach-step : (states : List State) (q t : ℕ) → Leads (state_at states q).edges t → ReachesEnd states t → ReachesEnd states q
reach-step states q t l r = (suc r.0, step-top states (state_at states q).edges t (λ j. AcceptsFrom states j (replicate r.0 Top)) l r.1)

pub no-marks : (n q : ℕ) → IsTrue (is_marked (replicate n false) q) → ⊥
no-marks zero q h = never h
no-marks (suc n) zero h = never h
no-marks (suc n) (suc q) h = no-marks n q h

-- the search begins with the final states
pub search-start : (states : List State) (m : Marking)
    → Visits (record { marks = replicate (length states) false; waiting = [] }) m (finals_from 0 states) → length m.marks ≡ length states → IsSearch states m
search-start states m v e = record {
  same_length = e;
  reach = λ q h. elim (v.marks_only q h) as (λ _. ReachesEnd states q) [
    | inl k ↦ absurd (no-marks (length states) q k)
    | inr k ↦ (0, (finals-member q states).0 k)
  ];
  closed = λ q t l h. elim (v.new_wait t h) as (λ _. IsTrue (is_marked m.marks q) ⊎ Member t m.waiting) [
    | inl k ↦ absurd (no-marks (length states) t k)
    | inr k ↦ inr k
  ];
  wait_marked = λ q h. elim (v.wait_only q h) as (λ _. IsTrue (is_marked m.marks q)) [ inl k ↦ absurd k | inr k ↦ v.marks_all q k ];
  finals = λ q h. v.marks_all q ((finals-member q states).1 h);
}

-- the sources of a state that waited are visited
pub search-step : (states : List State) (m : Marking) (waiting : List ℕ) (t : ℕ) (new : Marking) → IsSearch states m → m.waiting ≡ waiting ++ t ∷ []
    → Visits (record { marks = m.marks; waiting = waiting }) new (sources_from 0 t states) → IsSearch states new
search-step states m waiting t new s e v = record {
  same_length = v.same_length ∙ s.same_length;
  reach = λ q h. elim (v.marks_only q h) as (λ _. ReachesEnd states q) [
    | inl k ↦ s.reach q k
    | inr k ↦ reach-step states q t ((sources-member q t states).0 k) (s.reach t (s.wait_marked t (waited t (inr (inl refl)))))
  ];
  closed = λ q j l h. elim (v.new_wait j h) as (λ _. IsTrue (is_marked new.marks q) ⊎ Member j new.waiting) [
    | inl k ↦ elim (s.closed q j l k) as (λ _. IsTrue (is_marked new.marks q) ⊎ Member j new.waiting) [
      | inl g ↦ inl (v.stay q g)
      | inr g ↦ elim ((member-append j waiting (t ∷ [])).0 (subst (λ (l' : List ℕ). Member j l') e g)) as (λ _. IsTrue (is_marked new.marks q) ⊎ Member j new.waiting) [
        | inl f ↦ inr (v.still_wait j f)
        | inr f ↦ elim f as (λ _. IsTrue (is_marked new.marks q) ⊎ Member j new.waiting) [
          | inl same ↦ inl (v.marks_all q ((sources-member q t states).1 (subst (λ (i : ℕ). Leads (state_at states q).edges i) same l)))
          | inr z ↦ absurd z
        ]
      ]
    ]
    | inr k ↦ inr k
  ];
  wait_marked = λ q h. elim (v.wait_only q h) as (λ _. IsTrue (is_marked new.marks q)) [
    | inl k ↦ v.stay q (s.wait_marked q (waited q (inl k)))
    | inr k ↦ v.marks_all q k
  ];
  finals = λ q h. v.stay q (s.finals q h);
} where
  waited : (q : ℕ) → Member q waiting ⊎ Member q (t ∷ []) → Member q m.waiting
  waited q h = subst (λ (l : List ℕ). Member q l) (sym e) ((member-append q waiting (t ∷ [])).1 h)

-- once no state waits, the marks are exact
pub search-ends : (states : List State) (m : Marking) → IsSearch states m → m.waiting ≡ [] → MarksAlive states m.marks
search-ends states m s e = record {
  same_length = s.same_length;
  exact = λ q. (s.reach q, λ r. all r.0 q r.1);
} where
  all : (n q : ℕ) → AcceptsFrom states q (replicate n Top) → IsTrue (is_marked m.marks q)
  all zero q a = s.finals q a
  all (suc n) q a =
      let r = step-back (state_at states q).edges (λ j. AcceptsFrom states j (replicate n Top)) a in
      elim (s.closed q r.0 r.1 (all n r.0 r.2)) as (λ _. IsTrue (is_marked m.marks q)) [
        | inl k ↦ k
        | inr k ↦ absurd (subst (λ (l : List ℕ). Member r.0 l) e k)
      ]

-- only a state is marked
marked-below : (marks : List Truth) (q : ℕ) → IsTrue (is_marked marks q) → q < length marks
marked-below [] q h = absurd (never h)
marked-below (m ∷ marks) zero h = omega arith
marked-below (m ∷ marks) (suc q) h = let below = marked-below marks q h in omega (arith, below)

-- only from a state an edge leads
leads-below : (ss : List State) (q t : ℕ) → Leads (state_at ss q).edges t → q < length ss
leads-below [] q t l = absurd l
leads-below (s ∷ ss) zero t l = omega arith
leads-below (s ∷ ss) (suc q) t l = let below = leads-below ss q t l in omega (arith, below)

-- a state that waits is one
pub waiting-below : (states : List State) (m : Marking) (waiting : List ℕ) (t : ℕ) → IsSearch states m → m.waiting ≡ waiting ++ t ∷ [] → t < length states
waiting-below states m waiting t s e =
    let marked = s.wait_marked t (subst (λ (l : List ℕ). Member t l) (sym e) ((member-append t waiting (t ∷ [])).1 (inr (inl refl)))) in
    let below = marked-below m.marks t marked in
    omega (arith, below, s.same_length)

each-from_members : (high : ℕ) (ns : List ℕ) → ((q : ℕ) → Member q ns → q < high) → EachBelow high ns
each-from_members high [] h = tt
each-from_members high (n ∷ ns) h = (h n (inl refl), each-from_members high ns (λ q k. h q (inr k)))

pub sources-below : (states : List State) (t : ℕ) → EachBelow (length states) (sources_from 0 t states)
sources-below states t = each-from_members (length states) (sources_from 0 t states) (λ q h. leads-below states q t ((sources-member q t states).0 h))

final-below : (ss : List State) (q : ℕ) → IsTrue (state_at ss q).is_final → q < length ss
final-below [] q h = absurd (never h)
final-below (s ∷ ss) zero h = omega arith
final-below (s ∷ ss) (suc q) h = let below = final-below ss q h in omega (arith, below)

pub finals-below : (states : List State) → EachBelow (length states) (finals_from 0 states)
finals-below states = each-from_members (length states) (finals_from 0 states) (λ q h. final-below states q ((finals-member q states).0 h))

pub all-below : (high : ℕ) (ns : List ℕ) → EachBelow high ns → All (λ n. n < high) ns
all-below high ns h = All-from_recursion (λ n. n < high) ns (again ns h) where
  again : (ns : List ℕ) → EachBelow high ns → AllByRecursion (λ n. n < high) ns
  again [] h = tt
  again (n ∷ ns) h = (h.0, again ns h.1)

-- one more edge adds its source to those of its target
sources_in-push : (n t : ℕ) (es : List Edge) (e : Edge) → sources_in n t (es ++ e ∷ []) ≡ sources_in n t es ++ (if nat_eq e.target t then n ∷ [] else [])
sources_in-push n t [] e = append-nil (if nat_eq e.target t then n ∷ [] else [])
sources_in-push n t (f ∷ es) e =
    ap (λ (l : List ℕ). (if nat_eq f.target t then n ∷ [] else []) ++ l) (sources_in-push n t es e)
    ∙ sym (append_assoc (if nat_eq f.target t then n ∷ [] else []) (sources_in n t es) (if nat_eq e.target t then n ∷ [] else []))

pub sources_from-push : (k t : ℕ) (ss : List State) (s : State) → sources_from k t (ss ++ s ∷ []) ≡ sources_from k t ss ++ sources_in (k + length ss) t s.edges
sources_from-push k t [] s = append-nil (sources_in k t s.edges) ∙ ap (λ n. sources_in n t s.edges) (omega arith)
sources_from-push k t (r ∷ ss) s =
    ap (λ (l : List ℕ). sources_in k t r.edges ++ l) (sources_from-push (suc k) t ss s ∙ ap (λ n. sources_from (suc k) t ss ++ sources_in n t s.edges) (omega arith))
    ∙ sym (append_assoc (sources_in k t r.edges) (sources_from (suc k) t ss) (sources_in (k + length (r ∷ ss)) t s.edges))

pub adds-none : (old : List (List ℕ)) (number : ℕ) → AddsSources old old number []
adds-none old number t h = sym (append-nil (get_or old t []))

pub adds-more : (old now : List (List ℕ)) (number : ℕ) (es : List Edge) (e : Edge) → length now ≡ length old → e.target < length now → AddsSources old now number es
    → AddsSources old (set now e.target (get_or now e.target [] ++ number ∷ [])) number (es ++ e ∷ [])
adds-more old now number es e len below adds t h = by_test (nat_eq e.target t) refl where
  goal : Truth → Type 0
  goal b = get_or (set now e.target (get_or now e.target [] ++ number ∷ [])) t [] ≡ get_or old t [] ++ sources_in number t (es ++ e ∷ [])

  pushed : (b : Truth) → nat_eq e.target t ≡ b → sources_in number t (es ++ e ∷ []) ≡ sources_in number t es ++ (if b then number ∷ [] else [])
  pushed b k = sources_in-push number t es e ∙ ap (λ c. sources_in number t es ++ (if c then number ∷ [] else [])) k

  by_test : (b : Truth) → nat_eq e.target t ≡ b → goal b
  by_test true k =
      let same = same_number e.target t k in
      subst (λ (j : ℕ). get_or (set now e.target (get_or now e.target [] ++ number ∷ [])) j [] ≡ get_or now j [] ++ number ∷ []) same
      (get_or-set_same now e.target (get_or now e.target [] ++ number ∷ []) [] below)
      ∙ (ap (λ (l : List ℕ). l ++ number ∷ []) (adds t h)
      ∙ (append_assoc (get_or old t []) (sources_in number t es) (number ∷ [])
      ∙ ap (λ (l : List ℕ). get_or old t [] ++ l) (sym (pushed true k))))
  by_test false k =
      let other : t ≡ e.target → ⊥ = λ s. never (sym k ∙ eq-eqb e.target t (sym s)) in
      get_or-set_other now e.target t (get_or now e.target [] ++ number ∷ []) [] other
      ∙ (adds t h ∙ ap (λ (l : List ℕ). get_or old t [] ++ l) (sym (pushed false k ∙ append-nil (sources_in number t es))))

length-replicate : (n : ℕ) → length (replicate n false) ≡ n
length-replicate zero = refl
length-replicate (suc n) = ap (λ k. suc k) (length-replicate n)

-- the search after the final states were visited
pub alive-start : (states : List State) (n : ℕ) (m : Marking) → n ≡ length states
    → m ≡ visit_all (record { marks = replicate n false; waiting = [] }) (finals_from 0 states) → IsSearch states m
alive-start states n m e made =
    let first : Marking = record { marks = replicate (length states) false; waiting = [] } in
    let v = visits-all first (finals_from 0 states) (subst (λ (k : ℕ). EachBelow k (finals_from 0 states)) (sym (length-replicate (length states))) (finals-below states)) in
    let s = search-start states (visit_all first (finals_from 0 states)) v (v.same_length ∙ length-replicate (length states)) in
    subst (λ (m : Marking). IsSearch states m)
    (sym (made ∙ ap (λ k. visit_all (record { marks = replicate k false; waiting = [] }) (finals_from 0 states)) e)) s

-- the sources of a state that waited are states
pub found-below : (states : List State) (m : Marking) (t : ℕ) (found : List ℕ) → IsSearch states m → found ≡ sources_from 0 t states
    → EachBelow (length m.marks) found
found-below states m t found s e =
    subst (λ (l : List ℕ). EachBelow (length m.marks) l) (sym e)
    (subst (λ (k : ℕ). EachBelow k (sources_from 0 t states)) (sym s.same_length) (sources-below states t))

-- they are visited: the search goes on, with less to do
pub alive-step : (states : List State) (m : Marking) (waiting : List ℕ) (t : ℕ) (found : List ℕ) (new : Marking) → IsSearch states m
    → m.waiting ≡ waiting ++ t ∷ [] → found ≡ sources_from 0 t states
    → new ≡ visit_all (record { marks = m.marks; waiting = waiting }) found
    → IsSearch states new × (work new < work m)
alive-step states m waiting t found new s e f made =
    let v : Visits (record { marks = m.marks; waiting = waiting }) new found =
    subst (λ (n : Marking). Visits (record { marks = m.marks; waiting = waiting }) n found) (sym made)
    (visits-all (record { marks = m.marks; waiting = waiting }) found (found-below states m t found s f)) in
    let w : Visits (record { marks = m.marks; waiting = waiting }) new (sources_from 0 t states) =
    subst (λ (l : List ℕ). Visits (record { marks = m.marks; waiting = waiting }) new l) f v in
    let longer : length m.waiting ≡ length waiting + 1 = ap (λ (l : List ℕ). length l) e ∙ length-append waiting (t ∷ []) in
    (search-step states m waiting t new s e w, omega (arith, v.same_work, longer))
