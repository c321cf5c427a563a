-- Lists of marks and of echoes: what is read is what was written, in order, and what was written is read again.
use Rattle.std.proofs.lemmas.Grind.{common_steps}
use Rattle.std.proofs.Common.{◌≡◌, ℕ, zero, suc, ◌^◌, ◌<◌, ◌≤◌, true, Option, Some, None, List, [], ◌∷◌, ◌++◌, length, get_or, Result, Ok, refl, sym, ap, subst, ◌∙◌, append_assoc, arith}
use Rattle.std.specs.Prelude.{All, AllPairs}
use Rattle.std.specs.List.{flat_map}
use Rattle.std.specs.Int.{w16, to_be_bytes}
use Rattle.std.proofs.lemmas.Bool.{ltb-true, lt-ltb}
use Rattle.std.proofs.lemmas.List.Elements.{All-cons, All-head, All-tail}
use Rattle.std.proofs.lemmas.List.Kept.{AllPairs-cons}
use Rattle.wb_names.specs.Values.{MarkValue}
use Rattle.wb_names.specs.Drawing.{seq_fault}
use Rattle.wb_names.specs.Ascending.{is_above}
use Rattle.wb_names.specs.declared.echo.Echo.{Echo}
use Rattle.wb_codec.specs.declared.fault.ReadFault.{ReadFault}
use Rattle.wb_codec.specs.declared.fault.ReadFault.TheVariants.{Order}
use Rattle.wb_codec.specs.Ranges.{IsMark, IsEcho, IsEntryList, IsMarkList, IsEchoList}
use Rattle.wb_codec.specs.Spelling.{mark_bytes, echo_bytes, list_bytes}
use Rattle.wb_codec.specs.Reading.{mark_at, echo_at, list_at, marks_at, echoes_at}
use Rattle.wb_codec.proofs.Bytes.{IsBytes}
use Rattle.wb_codec.proofs.FieldLaws.{Reads, gives, step, weaker, checked, ranged, Takes, Takes-then, Numbered, number_reads, wide32, wide64}
use Rattle.wb_codec.proofs.DrawopLaws.{seq_counted}

-- ---- one entry

-- what was taken of an entry
pub record EntryTaken {X : Type 0} (source : X → ℕ) (spell : X → List ℕ) (Fits : X → Type 0) (before : Option ℕ) (bytes : List ℕ) (x : X) (rest : List ℕ) : Type 0 where
  pub taken : Takes bytes (spell x) rest
  pub fits : Fits x
  pub above : is_above before (source x) ≡ true

-- an entry in range, its number, where it has one, at least 1
pub record EntryFits {X : Type 0} (IsPositive IsEntry : X → Type 0) (x : X) : Type 0 where
  pub ranges : IsEntry x
  pub positive : IsPositive x

abbrev pub MarkFits : MarkValue → Type 0
MarkFits = EntryFits (λ (m : MarkValue). 1 ≤ m.high) IsMark

abbrev pub EchoFits : Echo → Type 0
EchoFits = EntryFits (λ (e : Echo). Unit {0}) IsEcho

abbrev pub mark_source : MarkValue → ℕ
mark_source m = m.source

abbrev pub echo_source : Echo → ℕ
echo_source e = e.source

mark_reads : (before : Option ℕ) (bytes : List ℕ) → IsBytes bytes → Reads (λ x. EntryTaken mark_source mark_bytes MarkFits before bytes x.0 x.1) (mark_at before bytes)
unfolding mark_at
mark_reads before bytes fits = step _ (number_reads wide32 bytes fits) (λ s ts. step _ (number_reads wide32 s.1 ts.0.rest_fits) (λ h th. ranged (seq_fault h.0) h.0 _ (λ counted. checked (is_above before s.0) Order s.0 _ refl (λ above. gives _ (record {
  taken = Takes-then _ _ _ _ _ ts.0 th.0;
  fits = record { ranges = record { source = ts.1; high = th.1 }; positive = seq_counted h.0 counted };
  above = above;
})))))

mark_again : (before : Option ℕ) (m : MarkValue) (rest : List ℕ) → MarkFits m → is_above before m.source ≡ true → mark_at before (mark_bytes m ++ rest) ≡ Ok (m, rest)
unfolding mark_at
mark_again before m rest fits above = grind (arith, common_steps)

echo_reads : (before : Option ℕ) (bytes : List ℕ) → IsBytes bytes → Reads (λ x. EntryTaken echo_source echo_bytes EchoFits before bytes x.0 x.1) (echo_at before bytes)
unfolding echo_at
echo_reads before bytes fits = step _ (number_reads wide32 bytes fits) (λ s ts. step _ (number_reads wide64 s.1 ts.0.rest_fits) (λ m tm. step _ (number_reads wide64 m.1 tm.0.rest_fits) (λ h th. checked (is_above before s.0) Order s.0 _ refl (λ above. gives _ (record {
  taken = Takes-then _ _ _ _ _ (Takes-then _ _ _ _ _ ts.0 tm.0) th.0;
  fits = record { ranges = record { source = ts.1; sent = tm.1; held = th.1 }; positive = tt };
  above = above;
})))))

echo_again : (before : Option ℕ) (e : Echo) (rest : List ℕ) → EchoFits e → is_above before e.source ≡ true → echo_at before (echo_bytes e ++ rest) ≡ Ok (e, rest)
unfolding echo_at
echo_again before e rest fits above = grind (arith, common_steps)

-- ---- lists of entries

module _ {X : Type 0} (entry_at : Option ℕ → List ℕ → Result (X × List ℕ) ReadFault) (source : X → ℕ) (spell : X → List ℕ) (IsPositive IsEntry : X → Type 0) where
  abbrev Fits : X → Type 0
  Fits = EntryFits IsPositive IsEntry

  record ListTaken (n : ℕ) (before : Option ℕ) (bytes : List ℕ) (xs : List X) (rest : List ℕ) : Type 0 where
    taken : Takes bytes (flat_map spell xs) rest
    fits : All Fits xs
    ascending : AllPairs (λ a b. source a < source b) xs
    above : All (λ a. is_above before (source a) ≡ true) xs
    count : length xs ≡ n

  above_later : (before : Option ℕ) (s t : ℕ) → is_above before s ≡ true → is_above (Some s) t ≡ true → is_above before t ≡ true
  above_later None s t e f = refl
  above_later (Some b) s t e f = lt-ltb b t (omega (arith, ltb-true b s e, ltb-true s t f))

  one_more : (n : ℕ) (before : Option ℕ) (bytes : List ℕ) (x : X) (after : List ℕ) (xs : List X) (rest : List ℕ) → EntryTaken source spell Fits before bytes x after → ListTaken n (Some (source x)) after xs rest → ListTaken (suc n) before bytes (x ∷ xs) rest
  one_more n before bytes x after xs rest t ts = record {
    taken = Takes-then bytes (spell x) after (flat_map spell xs) rest t.taken ts.taken;
    fits = All-cons Fits x xs t.fits ts.fits;
    ascending = AllPairs-cons (λ (a b : X). source a < source b) x xs (λ k d h. ltb-true (source x) (source (get_or xs k d)) (ts.above k d h)) ts.ascending;
    above = All-cons (λ (a : X). is_above before (source a) ≡ true) x xs t.above (λ k d h. above_later before (source x) (source (get_or xs k d)) t.above (ts.above k d h));
    count = ap suc ts.count;
  }

  abbrev EntryReads : Type 0
  EntryReads = (before : Option ℕ) (bytes : List ℕ) → IsBytes bytes → Reads (λ x. EntryTaken source spell Fits before bytes x.0 x.1) (entry_at before bytes)

  list_reads : EntryReads → (n : ℕ) (before : Option ℕ) (bytes : List ℕ) → IsBytes bytes → Reads (λ y. ListTaken n before bytes y.0 y.1) (list_at entry_at source n before bytes)
  unfolding list_at
  list_reads entry zero before bytes fits = gives _ (record {
    taken = record { parts = refl; rest_fits = fits };
    fits = λ k d h. absurd (omega arith);
    ascending = λ i j d ij h. absurd (omega arith);
    above = λ k d h. absurd (omega arith);
    count = refl;
  })
  list_reads entry (suc n) before bytes fits = step _ (entry before bytes fits) (λ a ta. step _ (list_reads entry n (Some (source a.0)) a.1 ta.taken.rest_fits) (λ b tb. gives _ (one_more n before bytes a.0 a.1 b.0 b.1 ta tb)))

  again_from : ((before : Option ℕ) (x : X) (rest : List ℕ) → Fits x → is_above before (source x) ≡ true → entry_at before (spell x ++ rest) ≡ Ok (x, rest))
      → (xs : List X) (before : Option ℕ) (rest : List ℕ) → All Fits xs → AllPairs (λ a b. source a < source b) xs → All (λ a. is_above before (source a) ≡ true) xs → list_at entry_at source (length xs) before (flat_map spell xs ++ rest) ≡ Ok (xs, rest)
  unfolding list_at
  again_from again [] before rest fits up above = refl
  again_from again (x ∷ xs) before rest fits up above =
      let higher : All (λ a. is_above (Some (source x)) (source a) ≡ true) xs = λ k d h. lt-ltb (source x) (source (get_or xs k d)) (up 0 (suc k) d (omega arith) (omega arith)) in
      let first = again before x (flat_map spell xs ++ rest) (All-head Fits x xs fits) (All-head (λ (a : X). is_above before (source a) ≡ true) x xs above) in
      let others = again_from again xs (Some (source x)) rest (All-tail Fits x xs fits) (λ i j d ij h. up (suc i) (suc j) d (omega arith) (omega arith)) higher in
      ap (list_at entry_at source (suc (length xs)) before) (append_assoc (spell x) (flat_map spell xs) rest) ∙ rw (first, others) refl

  -- how many there are, and each
  counted_reads : EntryReads → (bytes : List ℕ) (n : ℕ × List ℕ) → Numbered w16 (2 ^ 16) bytes n → Reads (λ y. Takes bytes (list_bytes spell y.0) y.1 × IsEntryList source IsPositive IsEntry y.0) (list_at entry_at source n.0 None n.1)
  counted_reads entry bytes n (number, few) = weaker (list_reads entry n.0 None n.1 number.rest_fits) (λ y t.
      let count = t.count in (
        Takes-then bytes (to_be_bytes w16 (length y.0)) n.1 (flat_map spell y.0) y.1 (subst (λ (m : ℕ). Takes bytes (to_be_bytes w16 m) n.1) (sym count) number) t.taken,
        record {
          lawful = record { ascending = t.ascending; positive = λ k d h. (t.fits k d h).positive; few = omega arith };
          ranges = λ k d h. (t.fits k d h).ranges;
        },
      ))

  list_again : ((before : Option ℕ) (x : X) (rest : List ℕ) → Fits x → is_above before (source x) ≡ true → entry_at before (spell x ++ rest) ≡ Ok (x, rest))
      → (xs : List X) (rest : List ℕ) → IsEntryList source IsPositive IsEntry xs → list_at entry_at source (length xs) None (flat_map spell xs ++ rest) ≡ Ok (xs, rest)
  list_again again xs rest fits = again_from again xs None rest (λ k d h. record { ranges = fits.ranges k d h; positive = fits.lawful.positive k d h }) fits.lawful.ascending (λ k d h. refl)

-- ---- lists of marks and of echoes

pub marks_read : (bytes : List ℕ) (n : ℕ × List ℕ) → Numbered w16 (2 ^ 16) bytes n → Reads (λ y. Takes bytes (list_bytes mark_bytes y.0) y.1 × IsMarkList y.0) (marks_at n.0 n.1)
marks_read = counted_reads mark_at mark_source mark_bytes (λ (m : MarkValue). 1 ≤ m.high) IsMark mark_reads

pub marks_again : (marks : List MarkValue) (rest : List ℕ) → IsMarkList marks → marks_at (length marks) (flat_map mark_bytes marks ++ rest) ≡ Ok (marks, rest)
marks_again = list_again mark_at mark_source mark_bytes (λ (m : MarkValue). 1 ≤ m.high) IsMark mark_again

pub echoes_read : (bytes : List ℕ) (n : ℕ × List ℕ) → Numbered w16 (2 ^ 16) bytes n → Reads (λ y. Takes bytes (list_bytes echo_bytes y.0) y.1 × IsEchoList y.0) (echoes_at n.0 n.1)
echoes_read = counted_reads echo_at echo_source echo_bytes (λ (e : Echo). Unit {0}) IsEcho echo_reads

pub echoes_again : (echoes : List Echo) (rest : List ℕ) → IsEchoList echoes → echoes_at (length echoes) (flat_map echo_bytes echoes ++ rest) ≡ Ok (echoes, rest)
echoes_again = list_again echo_at echo_source echo_bytes (λ (e : Echo). Unit {0}) IsEcho echo_again
