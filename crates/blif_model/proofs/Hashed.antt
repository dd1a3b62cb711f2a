-- Names that are found in slots, with one more.
use Rattle.std.proofs.Common.{◌≡◌, ℕ, ◌+◌, ◌<◌, ◌≤◌, ◌⊎◌, Bool, true, false, cond, List, [], ◌∷◌, ◌++◌, length, get_or, set, Option, None, Some, inl, inr, refl, sym, ap, subst, ◌∙◌, ⊎_elim, arith, length-append, length-set}
use Rattle.std.proofs.lemmas.Bool.{cases_eq, cases_lt}
use Rattle.std.proofs.lemmas.List.{get_or_append_left, get_or_push, get_or-set_same, get_or-set_other}
use Rattle.std.proofs.lemmas.Slice.Eq.{bytes_eq-Decides}
use Rattle.std.specs.BTreeMap.{BTreeMap}
use Rattle.std.specs.Str.{bytes_eq}
use denote.Ref.{Bor}
use Rattle.blif_model.specs.Hashes.{slot_at, start_of, end_of, other_of, AreDistinct, AreTaken, Finds, IsPlaceOf, IsSeated, Seats}
use Rattle.blif_model.specs.Names.{is_new, place_of}
use Rattle.blif_model.proofs.Places.{place_of-new, place_of-within, none_from}
use Rattle.blif_model.proofs.Knowing.{position-stays}
use Rattle.blif_model.proofs.Saying.{text-placed}

-- the slots of a name in front of a place are those of other names
abbrev pub AreOthers : List (List ℕ) → List ℕ → List ℕ → ℕ → Type 0
AreOthers names slots name end =
    (place number : ℕ) → start_of (length slots) name ≤ place → place < end → slot_at slots place ≡ number + 1 → bytes_eq (get_or names number []) name ≡ false

-- a name's own slot is at a place or behind it
record IsBehind (slots name : List ℕ) (number end : ℕ) : Type 0 where
  pub place : ℕ
  pub from : end ≤ place
  pub own : IsPlaceOf slots name (number + 1) place

module _ (names : List (List ℕ)) (slots : List ℕ) (others : BTreeMap (Bor (List ℕ)) ℕ) (name : List ℕ) where
  -- the name of a slot is found
  pub in-slot : (place number : ℕ) → Finds names slots others → slot_at slots place ≡ number + 1 → bytes_eq (get_or names number []) name ≡ true
      → Some number ≡ place_of names name
  in-slot place number finds is same =
      sym (ap (place_of names) (sym ((bytes_eq-Decides (get_or names number []) name).0 same)) ∙ finds.distinct number (omega (arith, finds.seats.within place, is)))

  -- where each slot in front of a place has another name, a name has its own slot behind it, or is among the others
  own-behind : (end number : ℕ) → Finds names slots others → AreOthers names slots name end → place_of names name ≡ Some number
      → IsBehind slots name number end ⊎ (AreTaken slots name (end_of (length slots) name) × (other_of others name ≡ Some number))
  own-behind end number finds differ there =
      let is : get_or names number [] ≡ name = text-placed names name number there in
      let seated : IsSeated slots others name number =
      subst (λ text. IsSeated slots others text number) is (finds.seats.each number (place_of-within names name number there)) in
      ⊎_elim
      (λ at. ⊎_elim
      (λ front. absurd (let other : bytes_eq (get_or names number []) name ≡ false = differ at.0 number at.1.after front at.1.holds in
      let same : bytes_eq (get_or names number []) name ≡ true = (bytes_eq-Decides (get_or names number []) name).1 is in cc))
      (λ behind. inl (record { place = at.0; from = behind; own = at.1 }))
      (cases_lt at.0 end))
      (λ full. inr full)
      seated

  -- a name whose first slots are those of others, up to an empty one, is none of the names
  pub at-empty : (place : ℕ) → Finds names slots others → AreOthers names slots name place → start_of (length slots) name ≤ place
      → place < end_of (length slots) name → slot_at slots place ≡ 0 → None ≡ place_of names name
  at-empty place finds differ after before empty = by_found (place_of names name) refl
    where
      by_found : (found : Option ℕ) → place_of names name ≡ found → None ≡ found
      by_found None is = refl
      by_found (Some number) is = absurd
          (⊎_elim
          (λ own. ⊎_elim
          (λ front. omega (arith, own.own.taken place after front, empty))
          (λ behind. let same : own.place ≡ place = omega (arith, own.from) in omega (arith, own.own.holds, ap (slot_at slots) same, empty))
          (cases_lt place own.place))
          (λ full. omega (arith, full.0 place after before, empty))
          (own-behind place number finds differ is))

  -- a name all of whose slots are those of others
  pub behind-all : Finds names slots others → AreOthers names slots name (end_of (length slots) name) → other_of others name ≡ place_of names name
  behind-all finds differ = by_found (place_of names name) (other_of others name) refl refl
    where
      by_found : (found other : Option ℕ) → place_of names name ≡ found → other_of others name ≡ other → other ≡ found
      by_found None None is there = refl
      by_found None (Some number) is there = absurd (let own : place_of names name ≡ Some number = finds.seats.right name number there in cc)
      by_found (Some number) other is there =
          ⊎_elim
          (λ own. absurd (omega (arith, own.own.before, own.from)))
          (λ full. sym there ∙ full.1)
          (own-behind (end_of (length slots) name) number finds differ is)

-- slots of which those stay that are taken
module _ (slots more : List ℕ) (text : List ℕ) where
  taken-stay : length more ≡ length slots → ((place : ℕ) → 0 < slot_at slots place → slot_at more place ≡ slot_at slots place)
      → (end : ℕ) → AreTaken slots text end → AreTaken more text end
  taken-stay long stay end taken = λ place after before.
      let there : 0 < slot_at slots place = taken place (omega (arith, after, ap (λ size. start_of size text) long)) before in
      omega (arith, there, stay place there)

  full-stay : length more ≡ length slots → ((place : ℕ) → 0 < slot_at slots place → slot_at more place ≡ slot_at slots place)
      → AreTaken slots text (end_of (length slots) text) → AreTaken more text (end_of (length more) text)
  full-stay long stay taken =
      subst (λ size. AreTaken more text (end_of size text)) (sym long) (taken-stay long stay (end_of (length slots) text) taken)

  place-stays : length more ≡ length slots → ((place : ℕ) → 0 < slot_at slots place → slot_at more place ≡ slot_at slots place)
      → (number place : ℕ) → IsPlaceOf slots text (number + 1) place → IsPlaceOf more text (number + 1) place
  place-stays long stay number place is = record {
    after = omega (arith, is.after, ap (λ size. start_of size text) long);
    before = subst (λ size. place < end_of size text) (sym long) is.before;
    holds = stay place (omega (arith, is.holds)) ∙ is.holds;
    taken = taken-stay long stay place is.taken;
  }

module _ (names : List (List ℕ)) (number : ℕ) (slots : List ℕ) (others : BTreeMap (Bor (List ℕ)) ℕ) (name : List ℕ) where
  -- the next name is in the first empty one of its slots
  pub seated-slot : (place : ℕ) → Seats names number slots others → get_or names number [] ≡ name → IsPlaceOf slots name 0 place
      → Seats names (number + 1) (set slots place (number + 1)) others
  seated-slot place seats is free = record {
    within = λ other. ⊎_elim
        (λ same. omega (arith, ap (slot_at more) same, own))
        (λ differ. omega (arith, get_or-set_other slots place other (number + 1) 0 differ, seats.within other))
        (cases_eq other place);
    each = λ other below. ⊎_elim
        (λ same. subst (λ n. IsSeated more others (get_or names n []) n) (sym same)
        (subst (λ text. IsSeated more others text number) (sym is) (inl (place, last))))
        (λ differ. stays other (seats.each other (omega (arith, below, differ))))
        (cases_eq other number);
    right = seats.right;
  }
    where
      more : List ℕ
      more = set slots place (number + 1)

      long : length more ≡ length slots
      long = length-set slots place (number + 1)

      own : slot_at more place ≡ number + 1
      own = get_or-set_same slots place (number + 1) 0 (omega (arith, free.before))

      stay : (other : ℕ) → 0 < slot_at slots other → slot_at more other ≡ slot_at slots other
      stay other there = get_or-set_other slots place other (number + 1) 0 (λ same. omega (arith, there, ap (slot_at slots) same, free.holds))

      last : IsPlaceOf more name (number + 1) place
      last = record {
        after = omega (arith, free.after, ap (λ size. start_of size name) long);
        before = subst (λ size. place < end_of size name) (sym long) free.before;
        holds = own;
        taken = taken-stay slots more name long stay place free.taken;
      }

      stays : (other : ℕ) → IsSeated slots others (get_or names other []) other → IsSeated more others (get_or names other []) other
      stays other seated = ⊎_elim
          (λ at. inl (at.0, place-stays slots more (get_or names other []) long stay other at.0 at.1))
          (λ full. inr (full-stay slots more (get_or names other []) long stay full.0, full.1))
          seated

  -- the next name is among the others
  pub seated-other : (more : BTreeMap (Bor (List ℕ)) ℕ) → Seats names number slots others → get_or names number [] ≡ name
      → place_of names name ≡ Some number → AreTaken slots name (end_of (length slots) name)
      → ((text : List ℕ) → other_of more text ≡ cond (bytes_eq name text) (Some number) (other_of others text))
      → Seats names (number + 1) slots more
  seated-other more seats is own taken updates = record {
    within = λ place. omega (arith, seats.within place);
    each = λ other below. ⊎_elim
        (λ same. subst (λ n. IsSeated slots more (get_or names n []) n) (sym same)
        (subst (λ text. IsSeated slots more text number) (sym is) (inr (taken, last))))
        (λ differ. stays other (seats.each other (omega (arith, below, differ))))
        (cases_eq other number);
    right = λ text found there. by_test text found (bytes_eq name text) refl (sym (updates text) ∙ there);
  }
    where
      last : other_of more name ≡ Some number
      last = updates name ∙ ap (λ b. cond b (Some number) (other_of others name)) ((bytes_eq-Decides name name).1 refl)

      kept : (text : List ℕ) (other : ℕ) (b : Bool) → bytes_eq name text ≡ b → other_of others text ≡ Some other
          → cond b (Some number) (other_of others text) ≡ Some other
      kept text other true same there = sym own ∙ ap (place_of names) ((bytes_eq-Decides name text).0 same) ∙ seats.right text other there
      kept text other false differ there = there

      stays : (other : ℕ) → IsSeated slots others (get_or names other []) other → IsSeated slots more (get_or names other []) other
      stays other seated = ⊎_elim
          (λ at. inl at)
          (λ full. inr (full.0, updates (get_or names other []) ∙ kept (get_or names other []) other (bytes_eq name (get_or names other [])) refl full.1))
          seated

      by_test : (text : List ℕ) (found : ℕ) (b : Bool) → bytes_eq name text ≡ b → cond b (Some number) (other_of others text) ≡ Some found
          → place_of names text ≡ Some found
      by_test text found true same there = ap (place_of names) (sym ((bytes_eq-Decides name text).0 same)) ∙ own ∙ there
      by_test text found false differ there = seats.right text found there

-- a list of names with one more
module _ (names : List (List ℕ)) (name : List ℕ) where
  stays-there : (text : List ℕ) (number : ℕ) → place_of names text ≡ Some number → place_of (names ++ name ∷ []) text ≡ Some number
  stays-there text number there = position-stays (λ other. bytes_eq text other) 0 number names (name ∷ []) there

  pub distinct-more : AreDistinct names → is_new names name ≡ true → AreDistinct (names ++ name ∷ [])
  distinct-more distinct new = λ number below. ⊎_elim
      (λ front. ap (place_of (names ++ name ∷ [])) (get_or_append_left names (name ∷ []) [] number front)
      ∙ stays-there (get_or names number []) number (distinct number front))
      (λ behind. let last : number ≡ length names = omega (arith, below, length-append names (name ∷ [])) in
      ap (place_of (names ++ name ∷ [])) (get_or_push names name [] number (sym last))
      ∙ place_of-new names name number last (none_from (place_of names name) new))
      (cases_lt number (length names))

  pub seats-more : (slots : List ℕ) (others : BTreeMap (Bor (List ℕ)) ℕ) → Seats names (length names) slots others
      → Seats (names ++ name ∷ []) (length names) slots others
  seats-more slots others seats = record {
    within = seats.within;
    each = λ number below. subst (λ text. IsSeated slots others text number)
        (sym (get_or_append_left names (name ∷ []) [] number below)) (seats.each number below);
    right = λ text number there. stays-there text number (seats.right text number there);
  }

  -- the next name of the list is seated
  pub finds-more : (slots more : List ℕ) (others and : BTreeMap (Bor (List ℕ)) ℕ) (number : ℕ) → Finds names slots others → is_new names name ≡ true
      → number ≡ length names
      → (Seats (names ++ name ∷ []) number slots others → get_or (names ++ name ∷ []) number [] ≡ name → place_of (names ++ name ∷ []) name ≡ Some number
      → Seats (names ++ name ∷ []) (number + 1) more and)
      → Finds (names ++ name ∷ []) more and
  finds-more slots more others and number finds new at seated =
      let long : number + 1 ≡ length (names ++ name ∷ []) = omega (arith, at, length-append names (name ∷ [])) in
      record {
        distinct = distinct-more finds.distinct new;
        seats = subst (λ n. Seats (names ++ name ∷ []) n more and) long
            (seated
            (subst (λ n. Seats (names ++ name ∷ []) n slots others) (sym at) (seats-more slots others finds.seats))
            (get_or_push names name [] number (sym at))
            (place_of-new names name number at (none_from (place_of names name) new)));
      }
