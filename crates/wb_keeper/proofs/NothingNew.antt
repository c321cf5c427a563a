-- Marks that tell nothing new.
use Rattle.std.proofs.Common.{◌≡◌, ℕ, ◌≤◌, Bool, true, false, cond, List, [], ◌∷◌, length, refl, ap, ◌∙◌, arith, eqb-true, None}
use Rattle.std.specs.Prelude.{nat_eq, nat_le, All, filter}
use Rattle.std.proofs.lemmas.Bool.Decides.{nat_tests}
use Rattle.std.proofs.lemmas.Bool.{leb-true}
use Rattle.std.proofs.lemmas.List.Elements.{All-head, All-tail}
use Rattle.wb_names.specs.Values.{MarkValue}
use Rattle.wb_names.specs.Marks.{mark_of}
use Rattle.wb_names.specs.Ascending.{AreMarks}
use Rattle.wb_names.proofs.Orders.{and_both}
use Rattle.wb_gaps.specs.Merging.{source_count}
use Rattle.wb_keeper.specs.TakingIn.{IsMerged, has_all}
use Rattle.wb_names.specs.declared.entries.TheConstants.{MAX_ENTRIES}

module _ (heard : List MarkValue) where
  -- no number that these tell is above that which was heard
  low : (told : List MarkValue) → has_all heard told ≡ true → (s : ℕ) → mark_of told s ≤ mark_of heard s
  low [] h s = omega arith
  low (m ∷ told) h s = from (λ k. low told k s) (nat_eq m.source s) refl where
    both : (nat_le m.high (mark_of heard m.source) ≡ true) × (has_all heard told ≡ true)
    both = and_both (nat_le m.high (mark_of heard m.source)) (has_all heard told) h

    from : (has_all heard told ≡ true → mark_of told s ≤ mark_of heard s) → (b : Bool) → nat_eq m.source s ≡ b → cond b m.high (mark_of told s) ≤ mark_of heard s
    from rest true e = let same : mark_of heard m.source ≡ mark_of heard s = ap (mark_of heard) (eqb-true m.source s e) in let le = leb-true m.high (mark_of heard m.source) both.0 in omega arith
    from rest false e = rest both.1

  -- each source that these tell of was heard
  none_new : (told : List MarkValue) → All (λ m. 1 ≤ m.high) told → has_all heard told ≡ true → length (filter (λ m. nat_eq (mark_of heard m.source) 0) told) ≡ 0
  none_new [] p h = refl
  none_new (m ∷ told) p h = ap (λ (b : Bool). length (cond b (m ∷ filter (λ m. nat_eq (mark_of heard m.source) 0) told) (filter (λ m. nat_eq (mark_of heard m.source) 0) told))) (apart m.high (mark_of heard m.source) (All-head (λ (m : MarkValue). 1 ≤ m.high) m told p) both.0) ∙ none_new told (All-tail (λ (m : MarkValue). 1 ≤ m.high) m told p) both.1 where
    both : (nat_le m.high (mark_of heard m.source) ≡ true) × (has_all heard told ≡ true)
    both = and_both (nat_le m.high (mark_of heard m.source)) (has_all heard told) h

    apart : (a b : ℕ) → 1 ≤ a → nat_le a b ≡ true → nat_eq b 0 ≡ false
    apart a b pos e = grind (arith, nat_tests)

  pub nothing_new : (told : List MarkValue) → AreMarks heard → AreMarks told → has_all heard told ≡ true → IsMerged heard told None
  nothing_new told of_heard of_told h = record {
    heard_are = of_heard;
    told_are = of_told;
    merges = (of_heard, λ s. let l = low told h s in omega arith);
  }

  pub room_for_nothing_new : (told : List MarkValue) → AreMarks heard → AreMarks told → has_all heard told ≡ true → nat_le (source_count heard told) MAX_ENTRIES ≡ true
  room_for_nothing_new told of_heard of_told h =
      let few = of_heard.few in
      let none = none_new told of_told.positive h in
      let count : source_count heard told ≤ MAX_ENTRIES = omega arith in
      test (source_count heard told) count where
        test : (n : ℕ) → n ≤ MAX_ENTRIES → nat_le n MAX_ENTRIES ≡ true
        test n le = grind (arith, nat_tests)
