-- Signals that are kept and listed.
use Rattle.std.proofs.Common.{◌≡◌, ℕ, zero, suc, ◌+◌, ◌<◌, ◌≤◌, ◌⊎◌, Bool, true, false, eqb, cond, List, [], ◌∷◌, ◌++◌, length, get_or, replicate, set, take, refl, sym, ap, ◌∙◌, subst, inl, inr, ⊎_elim, arith, append_assoc, length-append, get_or-set_same, get_or-set_other}
use Rattle.std.specs.Bool.{IsTrue}
use Rattle.std.specs.List.{All, Contains, count_by}
use Rattle.std.proofs.lemmas.Bool.{cases_Bool, cases_lt, eqb-true, eqb-false}
use Rattle.std.proofs.lemmas.List.{append-nil, get_or_append_left, get_or_past, get_or-replicate, length-replicate, take_more}
use Rattle.std.proofs.lemmas.List.Elements.{All-append, All-contains, All-more, All-nil, Contains-append_left, Contains-push}
use Rattle.std.proofs.lemmas.List.Sums.{count_by-le-length, sum_by-set}
use Rattle.netlist.specs.Valuations.{bit}
use Rattle.gates_frames.specs.Frames.{Cone}
use Rattle.gates_cone.specs.Cones.{HasAll, IsIn}
use Rattle.gates_cone.specs.Keeping.{AreListed, GoesOn, Keeps}

-- one signal more
with-bit : (kept : List Bool) (signal other : ℕ) → signal < length kept → IsTrue (bit (set kept signal true) other) → IsTrue (bit kept other) ⊎ (other ≡ signal)
with-bit kept signal other lt is =
    elim (cases_Bool (eqb other signal)) [
      | inl same ↦ inr (eqb-true other signal same)
      | inr differs ↦ inl (subst (λ b. IsTrue b) (get_or-set_other kept signal other true false (eqb-false other signal differs)) is)
    ]

stays : (kept : List Bool) (signal : ℕ) → signal < length kept → IsIn (bit kept) (bit (set kept signal true))
stays kept signal lt other is =
    elim (cases_Bool (eqb other signal)) [
      | inl same ↦ subst (λ s. IsTrue (bit (set kept signal true) s)) (sym (eqb-true other signal same)) (get_or-set_same kept signal true false lt)
      | inr differs ↦ subst (λ b. IsTrue b) (sym (get_or-set_other kept signal other true false (eqb-false other signal differs))) is
    ]

one : (P : ℕ → Type 0) (signal : ℕ) → P signal → All P (signal ∷ [])
one P signal holds = λ k d lt. (let first : k ≡ 0 = omega arith in subst (λ i. P (get_or (signal ∷ []) i d)) (sym first) holds)

pub keeps-one : (kept : List Bool) (signal : ℕ) → signal < length kept → Keeps kept (set kept signal true) (signal ∷ [])
keeps-one kept signal lt = record {
  stay = stays kept signal lt;
  has = one (λ s. IsTrue (bit (set kept signal true) s)) signal (get_or-set_same kept signal true false lt);
  only = λ other old has s is. ⊎_elim (λ was. old s was) (λ same. subst (λ n. IsTrue (other n)) (sym same) (has 0 0 (omega arith))) (with-bit kept signal s lt is);
}

pub keeps-same : (kept : List Bool) (signal : ℕ) → IsTrue (bit kept signal) → Keeps kept kept (signal ∷ [])
keeps-same kept signal is = record {
  stay = λ s was. was;
  has = one (λ s. IsTrue (bit kept s)) signal is;
  only = λ other old has s was. old s was;
}

abbrev counted : Bool → ℕ
counted value = cond value 1 0

pub listed-one : (kept : List Bool) (found : List ℕ) (signal : ℕ) → signal < length kept → bit kept signal ≡ false → AreListed kept found → AreListed (set kept signal true) (found ++ signal ∷ [])
listed-one kept found signal lt none listed = record {
  each = λ s is. ⊎_elim (λ was. Contains-append_left found (signal ∷ []) s (listed.each s was)) (λ same. subst (Contains (found ++ signal ∷ [])) (sym same) (Contains-push found signal)) (with-bit kept signal s lt is);
  are = All-append (λ s. IsTrue (bit (set kept signal true) s)) found (signal ∷ []) (λ k d below. stays kept signal lt (get_or found k d) (listed.are k d below))
      (one (λ s. IsTrue (bit (set kept signal true) s)) signal (get_or-set_same kept signal true false lt));
  once =
      let more = sum_by-set counted kept signal true false lt in
      let old : counted (bit kept signal) ≡ counted false = ap counted none in
      omega (arith, more, old, listed.once, length-append found (signal ∷ []));
}

pub goes-same : (found : List ℕ) → GoesOn found found
goes-same found = record { more = []; is = sym (append-nil found) }

pub goes-one : (found : List ℕ) (signal : ℕ) → GoesOn found (found ++ signal ∷ [])
goes-one found signal = record { more = signal ∷ []; is = refl }

pub goes-then : (a b c : List ℕ) → GoesOn a b → GoesOn b c → GoesOn a c
goes-then a b c first second = record { more = first.more ++ second.more; is = second.is ∙ ap (λ l. l ++ second.more) first.is ∙ append_assoc a first.more second.more }

-- the first so many of some signals
pub keeps-none : (kept : List Bool) (signals : List ℕ) → Keeps kept kept (take 0 signals)
keeps-none kept signals = record { stay = λ s was. was; has = λ k d lt. absurd (none signals lt); only = λ other old has s was. old s was }
  where
    none : {k : ℕ} (signals : List ℕ) → k < length (take 0 signals) → ⊥
    none [] lt = omega arith
    none (s ∷ signals) lt = omega arith

pub keeps-more : (a b c : List Bool) (signals : List ℕ) (i : ℕ) → i < length signals → Keeps a b (take i signals) → Keeps b c (get_or signals i 0 ∷ []) → Keeps a c (take (i + 1) signals)
keeps-more a b c signals i lt first second = record {
  stay = λ s was. second.stay s (first.stay s was);
  has = All-more (λ s. IsTrue (bit c s)) signals i 0 lt (λ k d below. second.stay (get_or (take i signals) k d) (first.has k d below)) (second.has 0 0 (omega arith));
  only = λ other old has s is.
      (let front : HasAll other (take i signals ++ get_or signals i 0 ∷ []) = subst (HasAll other) (take_more signals i 0 lt) has in
      second.only other (first.only other old (λ k d below. left other (take i signals) (get_or signals i 0) front k d below)) (one (λ n. IsTrue (other n)) (get_or signals i 0) (last other (take i signals) (get_or signals i 0) front)) s is);
}
  where
    left : (other : Cone) (xs : List ℕ) (x : ℕ) → HasAll other (xs ++ x ∷ []) → HasAll other xs
    left other xs x has k d below = subst (λ n. IsTrue (other n)) (get_or_append_left xs (x ∷ []) d k below) (has k d (omega (arith, length-append xs (x ∷ []))))

    last : (other : Cone) (xs : List ℕ) (x : ℕ) → HasAll other (xs ++ x ∷ []) → IsTrue (other x)
    last other xs x has = All-contains (λ n. IsTrue (other n)) (xs ++ x ∷ []) x has (Contains-push xs x)

-- at first
pub none-kept : (count signal : ℕ) → IsTrue (bit (replicate count false) signal) → ⊥
none-kept count signal is =
    ⊎_elim
    (λ lt. (let no : bit (replicate count false) signal ≡ false = get_or-replicate count signal false false lt in cc))
    (λ past. (let no : bit (replicate count false) signal ≡ false = get_or_past (replicate count false) signal false (omega (arith, length-replicate count false)) in cc))
    (cases_lt signal count)

none-counted : (count : ℕ) → count_by (λ (value : Bool). value) (replicate count false) ≡ 0
none-counted zero = refl
none-counted (suc count) = omega (arith, none-counted count)

pub listed-none : (count : ℕ) → AreListed (replicate count false) []
listed-none count = record {
  each = λ signal is. absurd (none-kept count signal is);
  are = All-nil (λ signal. IsTrue (bit (replicate count false) signal));
  once = sym (none-counted count);
}

-- no more signals are listed than there are
pub few-listed : (kept : List Bool) (found : List ℕ) → AreListed kept found → length found ≤ length kept
few-listed kept found listed = omega (arith, listed.once, count_by-le-length (λ (value : Bool). value) kept)

-- a kept signal is one
pub kept-within : (kept : List Bool) (signal : ℕ) → IsTrue (bit kept signal) → signal < length kept
kept-within kept signal is =
    ⊎_elim (λ lt. lt) (λ past. (let no : bit kept signal ≡ false = get_or_past kept signal false past in absurd (let yes : bit kept signal ≡ true = is in cc))) (cases_lt signal (length kept))
