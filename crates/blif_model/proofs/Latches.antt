-- A latch of five words.
use Rattle.std.proofs.Common.{◌≡◌, ℕ, Bool, true, false, ◌||◌, cond, List, [], ◌∷◌, length, map, get_or, Option, None, Some, refl, arith}
use Rattle.std.specs.Option.{option_map}
use Rattle.netlist.specs.declared.latch.Init.{Init}
use Rattle.blif_model.specs.declared.pieces.Span.{Span}
use Rattle.blif_model.specs.Scanning.{word_of}
use Rattle.blif_model.specs.Shapes.{init_of, is_edge, is_level, latch_of, with_init}
use Rattle.blif_model.specs.Words.{latch_in, plain_latch, timed_latch, with_clocking}

abbrev no_span : Span
no_span = record { at = 0; len = 0 }

by-init : (whole : List ℕ) (a b k c : Span) (init : Option Init) (on : Bool)
    → option_map (latch_in whole) (cond on (with_clocking k c (plain_latch a b init)) None)
    ≡ cond on (with_init (word_of whole a) (word_of whole b) (Some (record { kind = word_of whole k; control = word_of whole c })) init) None
by-init whole a b k c None true = refl
by-init whole a b k c None false = refl
by-init whole a b k c (Some init) true = refl
by-init whole a b k c (Some init) false = refl

pub latch_of_five : (whole : List ℕ) (words : List Span) (init : Option Init) → length words ≡ 5 → init ≡ init_of (word_of whole (get_or words 4 no_span)).text
    → option_map (latch_in whole) (timed_latch (word_of whole (get_or words 2 no_span)).text (get_or words 2 no_span) (get_or words 3 no_span) (plain_latch (get_or words 0 no_span) (get_or words 1 no_span) init))
    ≡ latch_of (map (word_of whole) words)
latch_of_five whole (a ∷ b ∷ k ∷ c ∷ i ∷ []) init size is =
    rw is (by-init whole a b k c (init_of (word_of whole i).text) (is_edge (word_of whole k).text || is_level (word_of whole k).text))
latch_of_five whole [] init size is = absurd (omega arith)
latch_of_five whole (a ∷ []) init size is = absurd (omega arith)
latch_of_five whole (a ∷ b ∷ []) init size is = absurd (omega arith)
latch_of_five whole (a ∷ b ∷ k ∷ []) init size is = absurd (omega arith)
latch_of_five whole (a ∷ b ∷ k ∷ c ∷ []) init size is = absurd (omega arith)
latch_of_five whole (a ∷ b ∷ k ∷ c ∷ i ∷ more ∷ rest) init size is = absurd (omega arith)
