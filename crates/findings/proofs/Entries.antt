-- One finding more.
use Rattle.std.proofs.Common.{◌≡◌, ap, subst, sym, ◌∙◌, ℕ, ◌+◌, ◌<◌, Bool as Truth, true, false, cond, Option, List, [], ◌∷◌, ◌++◌, length, take}
use Rattle.std.specs.Prelude.{slice_index_or}
use Rattle.std.proofs.lemmas.List.{append-nil}
use Rattle.std.proofs.lemmas.List.Elements.{filter_more}
use Rattle.findings.specs.Recordings.{Form}
use Rattle.netlist.specs.Design.{Design}
use Rattle.owed.specs.Owed.{is_asked}
use Rattle.prover.specs.declared.options.Options.{Options}
use Rattle.psl_tree.specs.declared.directive.Directive.{Directive}
use Rattle.findings.specs.Asked.{asked}
use Rattle.findings.specs.Entries.{AreEntries, IsEntry}
use Rattle.findings.specs.declared.entry.FindingEntry.{FindingEntry}

module _ (design : Design) (unit : List Directive) (options : Options) (covers : Truth) (wanted : Option Form) where
  entries-more : (ds : List Directive) (es : List FindingEntry) (d : Directive) (e : FindingEntry)
      → AreEntries design unit options wanted ds es → IsEntry design unit options wanted d e
      → AreEntries design unit options wanted (ds ++ d ∷ []) (es ++ e ∷ [])
  entries-more [] [] d e h k = (k, tt)
  entries-more [] (_ ∷ _) d e h k = absurd h
  entries-more (_ ∷ _) [] d e h k = absurd h
  entries-more (a ∷ ds) (b ∷ es) d e h k = (h.0, entries-more ds es d e h.1 k)

  -- the directive at a place is asked, and its finding comes behind the others
  pub with-asked : (ds : List Directive) (place : ℕ) (d : Directive) (es : List FindingEntry) (e : FindingEntry) → place < length ds
      → d ≡ slice_index_or ds place d → is_asked covers d.kind ≡ true
      → AreEntries design unit options wanted (asked covers (take place ds)) es → IsEntry design unit options wanted d e
      → AreEntries design unit options wanted (asked covers (take (place + 1) ds)) (es ++ e ∷ [])
  with-asked ds place d es e lt here is h k =
      subst (λ all. AreEntries design unit options wanted all (es ++ e ∷ [])) (sym more) (entries-more (asked covers (take place ds)) es d e h k)
    where
      more : asked covers (take (place + 1) ds) ≡ asked covers (take place ds) ++ d ∷ []
      more = filter_more (λ (a : Directive). is_asked covers a.kind) ds place d lt
          ∙ ap (λ (a : Directive). asked covers (take place ds) ++ cond (is_asked covers a.kind) (a ∷ []) []) (sym here)
          ∙ ap (λ b. asked covers (take place ds) ++ cond b (d ∷ []) []) is

  -- it is not
  pub with-other : (ds : List Directive) (place : ℕ) (d : Directive) (es : List FindingEntry) → place < length ds
      → d ≡ slice_index_or ds place d → is_asked covers d.kind ≡ false
      → AreEntries design unit options wanted (asked covers (take place ds)) es
      → AreEntries design unit options wanted (asked covers (take (place + 1) ds)) es
  with-other ds place d es lt here is h =
      subst (λ all. AreEntries design unit options wanted all es) (sym more) h
    where
      more : asked covers (take (place + 1) ds) ≡ asked covers (take place ds)
      more = filter_more (λ (a : Directive). is_asked covers a.kind) ds place d lt
          ∙ ap (λ (a : Directive). asked covers (take place ds) ++ cond (is_asked covers a.kind) (a ∷ []) []) (sym here)
          ∙ ap (λ b. asked covers (take place ds) ++ cond b (d ∷ []) []) is
          ∙ append-nil (asked covers (take place ds))
