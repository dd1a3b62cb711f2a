-- The first names of signals.
use Rattle.std.proofs.Common.{◌≡◌, sym, ◌∙◌, ap, ℕ, List, [], ◌∷◌, ◌++◌, map, Option, Some}
use Rattle.std.proofs.lemmas.List.{map-append}
use Rattle.psl_tree.specs.declared.name.Name.{Name}

-- one column more
pub column-more : (columns : List Name) (name : Name) (of : ℕ → Option Name) (signals : List ℕ) (signal : ℕ)
    → map (λ column. Some column) columns ≡ map of signals → Some name ≡ of signal
    → map (λ column. Some column) (columns ++ name ∷ []) ≡ map of (signals ++ signal ∷ [])
column-more columns name of signals signal h is =
    map-append (λ column. Some column) columns (name ∷ [])
    ∙ ap (λ (os : List (Option Name)). os ++ Some name ∷ []) h
    ∙ ap (λ (o : Option Name). map of signals ++ o ∷ []) is
    ∙ sym (map-append of signals (signal ∷ []))
