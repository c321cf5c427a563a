-- Spellings one behind the other tell the drawops.
use Rattle.std.proofs.Common.{◌≡◌, ℕ, ◌<◌, ◌≤◌, Bool, true, false, List, [], ◌∷◌, ◌++◌, length, take, refl, ap, sym, subst, ◌∙◌, arith, ⊎_elim, ◌⊎◌, inl, inr, suc}
use Rattle.std.specs.Prelude.{All, IsPermutation}
use Rattle.std.proofs.Math.Seq.{take-append_seam}
use Rattle.std.proofs.lemmas.Bool.{cases_lt}
use Rattle.std.proofs.lemmas.List.{take-append-le, append_cancel_left}
use Rattle.std.proofs.lemmas.List.Elements.{All-filter}
use Rattle.std.proofs.lemmas.List.Sorted.{All-permutation, IsPermutation-trans, IsPermutation-sym}
use Rattle.std.proofs.lemmas.Slice.Eq.{bytes_eq-Decides}
use Rattle.std.specs.Prelude.{bytes_eq}
use Rattle.wb_names.specs.Values.{DrawopValue}
use Rattle.wb_names.specs.Orders.{same_page}
use Rattle.wb_names.specs.declared.name.PageId.{PageId}
use Rattle.wb_codec.specs.declared.datagram.Datagram.{Datagram}
use Rattle.wb_codec.specs.declared.datagram.Datagram.TheVariants.{Draw}
use Rattle.wb_codec.specs.Ranges.{IsDrawop, IsDatagram}
use Rattle.wb_codec.specs.Spelling.{spelling}
use Rattle.wb_codec.specs.Reading.{reading}
use Rattle.wb_codec.specs.Laws.{ReadsSpellings, PrefixesAreShort, OneDatagram}
use Rattle.wb_display.specs.Laws.{on_page, StandsAlone, Converges}
use Rattle.wb_digest.specs.Digest.{ArePageInOrder, hashed_text}
use Rattle.wb_digest.specs.Laws.{HoldOnePage, Collision, TellPages}

module _ (reads : ReadsSpellings) (short : PrefixesAreShort) where
  -- no spelling begins another
  no_front : (v w : Datagram) → IsDatagram v → IsDatagram w → (r s : List ℕ) → spelling v ++ r ≡ spelling w ++ s → length (spelling v) < length (spelling w) → ⊥
  no_front v w a b r s e less =
      let front : spelling v ≡ take (length (spelling v)) (spelling w) = sym (take-append_seam (spelling v) r) ∙ ap (take (length (spelling v))) e ∙ take-append-le (length (spelling v)) (spelling w) s (omega arith) in
      let here = reads v a in
      let there = short w (length (spelling v)) b less in
      let clash = sym here ∙ ap reading front ∙ there in
      cc

  -- texts that are equal begin with one spelling
  same_first : (v w : Datagram) → IsDatagram v → IsDatagram w → (r s : List ℕ) → spelling v ++ r ≡ spelling w ++ s → spelling v ≡ spelling w
  same_first v w a b r s e = ⊎_elim
      (λ (less : length (spelling v) < length (spelling w)). absurd (no_front v w a b r s e less))
      (λ (most : length (spelling w) ≤ length (spelling v)). ⊎_elim
      (λ (less : length (spelling w) < length (spelling v)). absurd (no_front w v b a s r (sym e) less))
      (λ (least : length (spelling v) ≤ length (spelling w)).
      let same : length (spelling v) ≡ length (spelling w) = omega arith in
      sym (take-append_seam (spelling v) r) ∙ ap (take (length (spelling v))) e ∙ ap (λ (n : ℕ). take n (spelling w ++ s)) same ∙ take-append_seam (spelling w) s)
      (cases_lt (length (spelling w)) (length (spelling v))))
      (cases_lt (length (spelling v)) (length (spelling w)))

  -- a text tells all that stands in it
  same_drawops : OneDatagram → (xs ys : List DrawopValue) → All IsDrawop xs → All IsDrawop ys → hashed_text xs ≡ hashed_text ys → xs ≡ ys
  same_drawops one [] [] a b e = refl
  same_drawops one [] (y ∷ ys) a b e = cc
  same_drawops one (x ∷ xs) [] a b e = cc
  same_drawops one (x ∷ xs) (y ∷ ys) a b e =
      let spelled = same_first (Draw x) (Draw y) (a 0 x (omega arith)) (b 0 y (omega arith)) (hashed_text xs) (hashed_text ys) e in
      let first : Draw x ≡ Draw y = one (Draw x) (Draw y) (a 0 x (omega arith)) (b 0 y (omega arith)) spelled in
      let behind : hashed_text xs ≡ hashed_text ys = append_cancel_left (spelling (Draw y)) _ _ (sym (ap (λ (t : List ℕ). t ++ hashed_text xs) spelled) ∙ e) in
      let rest : xs ≡ ys = same_drawops one xs ys (λ k d h. a (suc k) d (omega arith)) (λ k d h. b (suc k) d (omega arith)) behind in
      cc

-- the drawops of a page, in order, have their fields in range if all have
in_range : (history drawops : List DrawopValue) (page : PageId) → All IsDrawop history → ArePageInOrder history page drawops → All IsDrawop drawops
in_range history drawops page all o = All-permutation IsDrawop (on_page page history) drawops o.all (All-filter (λ d. same_page d.name.page page) IsDrawop history all)

-- lists that hold the same drawops of a page show it alike
show_alike : StandsAlone → Converges → (one other : List DrawopValue) (page : PageId) → IsPermutation (on_page page one) (on_page page other) → HoldOnePage one other page
show_alike alone converge one other page held = record {
  held = held;
  shown = λ view again v w. converge (on_page page one) (on_page page other) page view again held ((alone one page view).1 v) ((alone other page again).1 w);
}

pub tell_pages : ReadsSpellings → PrefixesAreShort → OneDatagram → StandsAlone → Converges → (one other : List DrawopValue) → All IsDrawop one → All IsDrawop other → TellPages one other
tell_pages reads short one_spelling alone converge one other a b page digest o p = at (bytes_eq (hashed_text o.drawops) (hashed_text p.drawops)) refl where
  at : (same : Bool) → bytes_eq (hashed_text o.drawops) (hashed_text p.drawops) ≡ same → HoldOnePage one other page ⊎ Collision
  at true e =
      let drawops : o.drawops ≡ p.drawops = same_drawops reads short one_spelling o.drawops p.drawops (in_range one o.drawops page a o.in_order) (in_range other p.drawops page b p.in_order) ((bytes_eq-Decides _ _).0 e) in
      let mine : IsPermutation (on_page page one) p.drawops = subst (λ (ds : List DrawopValue). IsPermutation (on_page page one) ds) drawops o.in_order.all in
      inl (show_alike alone converge one other page (IsPermutation-trans _ _ _ mine (IsPermutation-sym _ _ p.in_order.all)))
  at false e = inr (record {
    one = hashed_text o.drawops;
    other = hashed_text p.drawops;
    differ = λ (same : hashed_text o.drawops ≡ hashed_text p.drawops). let clash = sym ((bytes_eq-Decides _ _).1 same) ∙ e in cc;
    same = sym o.is ∙ p.is;
  })
