-- The word of a Boolean from the columns of its atoms.
use Rattle.std.proofs.Common.{◌≡◌, sym, ap, ◌∙◌, ℕ, ◌≤◌, ◌<◌, ◌^◌, Bool as Truth, List, length, drop, get_or, bit_and, bit_or, w64, not}
use Rattle.std.specs.Prelude.{IsTrue, ◌&&◌, ◌||◌, slice_index}
use Rattle.std.specs.Int.{bit_not}
use Rattle.std.proofs.lemmas.Bool.{both_ways}
use Rattle.std.proofs.lemmas.List.{drop_all}
use Rattle.psl_tree.specs.Holds.{is_same_atom, holds}
use Rattle.psl_tree.specs.Trees.{Boolean, Test, Not, And, Or}
use Rattle.psl_tree.specs.declared.atom.Atom.{Atom}
use Rattle.psl_tree.specs.declared.letter.Letter.TheVariants.{Top, Bottom, Holds}
use Rattle.alternating.proofs.Stepping.{held-moves}
use Rattle.alternating_theory.specs.Atoms.{is_among}
use Rattle.alternating.specs.Packed.{bit}
use Rattle.alternating_blocks.proofs.Bits.{bit-and, bit-or, bit-not}
use Rattle.alternating_blocks.specs.Block.{TellsBoolean}

-- the column of the same atom
pub found : (atoms : List Atom) (columns : List ℕ) (number word : ℕ) (atom tested : Atom)
    → number < length atoms → IsTrue (is_same_atom atom (get_or atoms number tested)) → word ≡ slice_index columns number
    → TellsBoolean atoms columns (Test atom) word
found atoms columns number word atom tested lt same e among place Top h packs = absurd packs
found atoms columns number word atom tested lt same e among place Bottom h packs = absurd packs
found atoms columns number word atom tested lt same e among place (Holds held) h packs =
    ap (λ w. bit w place) e ∙ packs number tested lt ∙ sym (held-moves atom (get_or atoms number tested) held same)

-- an atom that is none of them has no column, and none is asked for
pub missing : (atoms : List Atom) (columns : List ℕ) (number word : ℕ) (atom : Atom)
    → length atoms ≤ number → is_among (drop number atoms) atom ≡ is_among atoms atom → TellsBoolean atoms columns (Test atom) word
missing atoms columns number word atom le e among place letter h packs =
    absurd (both_ways (is_among atoms atom) (sym e ∙ ap (λ l. is_among l atom) (drop_all number atoms le)) among)

pub tells-not : (atoms : List Atom) (columns : List ℕ) (test : Boolean) (word : ℕ) → word < 2 ^ 64
    → TellsBoolean atoms columns test word → TellsBoolean atoms columns (Not test) (bit_not w64 word)
tells-not atoms columns test word small tells among place Top h packs = absurd packs
tells-not atoms columns test word small tells among place Bottom h packs = absurd packs
tells-not atoms columns test word small tells among place (Holds held) h packs =
    bit-not word place small h ∙ ap (λ (b : Truth). not b) (tells among place (Holds held) h packs)

pub tells-and : (atoms : List Atom) (columns : List ℕ) (left right : Boolean) (word other : ℕ)
    → TellsBoolean atoms columns left word → TellsBoolean atoms columns right other → TellsBoolean atoms columns (And left right) (bit_and word other)
tells-and atoms columns left right word other l r among place Top h packs = absurd packs
tells-and atoms columns left right word other l r among place Bottom h packs = absurd packs
tells-and atoms columns left right word other l r among place (Holds held) h packs =
    let x = l among.0 place (Holds held) h packs in let y = r among.1 place (Holds held) h packs in
    bit-and word other place ∙ ap (λ (b : Truth). b && bit other place) x ∙ ap (λ (b : Truth). holds (Holds held) left && b) y

pub tells-or : (atoms : List Atom) (columns : List ℕ) (left right : Boolean) (word other : ℕ)
    → TellsBoolean atoms columns left word → TellsBoolean atoms columns right other → TellsBoolean atoms columns (Or left right) (bit_or word other)
tells-or atoms columns left right word other l r among place Top h packs = absurd packs
tells-or atoms columns left right word other l r among place Bottom h packs = absurd packs
tells-or atoms columns left right word other l r among place (Holds held) h packs =
    let x = l among.0 place (Holds held) h packs in let y = r among.1 place (Holds held) h packs in
    bit-or word other place ∙ ap (λ (b : Truth). b || bit other place) x ∙ ap (λ (b : Truth). holds (Holds held) left || b) y
