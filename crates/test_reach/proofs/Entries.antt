-- What leads into a cube, in a table.
use mathlib.Core.Bool.{beq}
use Rattle.std.proofs.Common.{◌≡◌, ℕ, ◌<◌, ℤ, Bool, true, false, not, ◌&&◌, ◌||◌, eqb, List, [], ◌∷◌, length, refl, sym, ap, ◌∙◌, subst, inl, inr, arith, eq-eqb}
use Rattle.std.specs.Bool.{IsTrue}
use Rattle.std.specs.Cmp.{booleans_Decides}
use Rattle.std.specs.List.{list_any, All, Contains}
use Rattle.std.proofs.lemmas.Bool.{and_from, and_parts, cases_Bool, eqb-true, false≢true, not-true, or_cases, or_left, or_right, true≢false}
use Rattle.std.proofs.lemmas.List.Elements.{All-contains}
use Rattle.std.proofs.lemmas.Slice.Eq.{slice_eq-Decides}
use Rattle.clauses.specs.Literals.{is_within}
use Rattle.clauses.proofs.Soundness.{none_from_any}
use Rattle.reach_frames.specs.Bits.{is_met, is_in_cube}
use Rattle.reach_frames.specs.Entries.{HasNoEntry}
use Rattle.reach_frames.specs.Systems.{System, IsEntry}
use Rattle.reach_frames.specs.declared.entry.Entry.{Entry}
use Rattle.test_reach.specs.Tables.{are_same, leads_from, leads_into, table_system}

pub same_bits : (bits others : List Bool) → are_same bits others ≡ true → bits ≡ others
same_bits bits others same = (slice_eq-Decides booleans_Decides bits others (are_same bits others) refl).0 same

bits_same : (bits others : List Bool) → bits ≡ others → are_same bits others ≡ true
bits_same bits others same = (slice_eq-Decides booleans_Decides bits others (are_same bits others) refl).1 same

starts : (initial : Bool) (before start : List Bool) → (IsTrue initial → before ≡ start) → (not initial || are_same before start) ≡ true
starts true before start begins = bits_same before start (begins refl)
starts false before start begins = refl

begun : (initial : Bool) (before start : List Bool) → (not initial || are_same before start) ≡ true → IsTrue initial → before ≡ start
begun true before start passes is = same_bits before start passes
begun false before start passes is = absurd (false≢true is)

pub found_entry : (start : List Bool) (steps : List Entry) (goal : ℤ) (within : IsTrue (is_within (length start) goal)) (frame : List (List ℤ)) (initial : Bool) (cube : List ℤ) (entry : Entry)
    → Contains steps entry → leads_into start frame initial cube entry ≡ true → IsEntry (table_system start steps goal within) frame initial cube entry
found_entry start steps goal within frame initial cube entry member leads =
    let a = and_parts _ _ leads in
    let b = and_parts _ _ a.1 in
    let c = and_parts _ _ b.1 in
    let d = and_parts _ _ c.1 in
    let e = and_parts _ _ d.1 in
    record {
      follows = (member, eqb-true (length entry.before) (length start) a.0, eqb-true (length entry.after) (length start) b.0);
      meets = c.0;
      outside = not-true (is_in_cube cube entry.before) d.0;
      inside = e.0;
      begins = begun initial entry.before start e.1;
    }

entry_leads : (start : List Bool) (steps : List Entry) (goal : ℤ) (within : IsTrue (is_within (length start) goal)) (frame : List (List ℤ)) (initial : Bool) (cube : List ℤ) (entry : Entry)
    → IsEntry (table_system start steps goal within) frame initial cube entry → leads_into start frame initial cube entry ≡ true
entry_leads start steps goal within frame initial cube entry is =
    and_from _ _ (eq-eqb (length entry.before) (length start) is.follows.1)
    (and_from _ _ (eq-eqb (length entry.after) (length start) is.follows.2)
    (and_from _ _ is.meets
    (and_from _ _ (ap not is.outside)
    (and_from _ _ is.inside (starts initial entry.before start is.begins)))))

pub no_entry : (start : List Bool) (steps : List Entry) (goal : ℤ) (within : IsTrue (is_within (length start) goal)) (frame : List (List ℤ)) (initial : Bool) (cube : List ℤ)
    → list_any (leads_into start frame initial cube) steps ≡ false → HasNoEntry (table_system start steps goal within) frame initial cube
no_entry start steps goal within frame initial cube none entry is =
    let each = none_from_any (leads_into start frame initial cube) steps none in
    let missed = All-contains (λ e. leads_into start frame initial cube e ≡ false) steps entry each is.follows.0 in
    true≢false (sym (entry_leads start steps goal within frame initial cube entry is) ∙ missed)

pub leads_follows : (start : List Bool) (steps : List Entry) (goal : ℤ) (within : IsTrue (is_within (length start) goal)) (state : List Bool) (cube : List ℤ) (entry : Entry) → length state ≡ length start
    → Contains steps entry → leads_from start state cube entry ≡ true → (table_system start steps goal within).follows state entry.after × (is_in_cube cube entry.after ≡ true)
leads_follows start steps goal within state cube entry size member leads =
    let a = and_parts _ _ leads in
    let b = and_parts _ _ a.1 in
    let P : List Bool → Type 0 = λ before. Contains steps (record { before = before; after = entry.after }) in
    ((subst P (same_bits entry.before state a.0) member, size, eqb-true (length entry.after) (length start) b.0), b.1)
