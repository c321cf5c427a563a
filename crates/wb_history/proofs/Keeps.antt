-- Each kind of step keeps the rule.
use Rattle.std.proofs.lemmas.Grind.{common_steps}
use Rattle.wb_history.specs.Sizes.{row_words}
use Rattle.std.proofs.Common.{◌≡◌, ◌≢◌, ◌⊎◌, ℕ, zero, suc, ◌+◌, ◌-◌, ◌<◌, ◌≤◌, eqb, List, [], ◌∷◌, ◌++◌, map, length, get_or, set, refl, sym, ap, ◌∙◌, subst, inl, inr, ⊎_elim, arith, length-append, length-set, get_or-set_other, get_or-set_same, eq-eqb, ne_eqb, lt_of_not-le}
use Rattle.std.proofs.lemmas.List.{length-map}
use mathlib.Core.Logic.{dite}
use mathlib.Core.Option.{none, some, some-injective, some-ne-none}
use native.Mathlib.Decide.{ℕ_discrete, dec_le}
use lib.ListN.{get_elem?}
use lib.Seq.{set-get_or}
use prog.Atomic.{either}
use Rattle.atomic_table.specs.Table.{State, step, keeps, stepped, Allows}
use Rattle.atomic_table.proofs.Lists.{set_here, at_longer, at_last}
use Rattle.wb_history.specs.declared.knowledge.Knowledge.{Knowledge}
use Rattle.wb_names.specs.Values.{DrawopValue}
use mathlib.Core.List.{IsPrefix}
use Rattle.wb_history.specs.Lists.{Once}
use Rattle.wb_names.specs.History.{HoldsName}
use Rattle.wb_names.specs.Arrivals.{New}
use Rattle.wb_names.proofs.Arrivals.{history_with-is}
use Rattle.std.specs.Prelude.{Contains}
use Rattle.std.proofs.lemmas.List.Elements.{All-push, Contains-append_left, Contains-push}
use Rattle.wb_history.proofs.Words.{all_are, all_at, at_contained, history_is, one_place}
use Rattle.wb_codec.specs.Rows.{row}
use Rattle.wb_codec.specs.Ranges.{IsDrawop}
use Rattle.wb_history.specs.Views.{HasAllRows, after_look, after_read, after_drawop, after_store, after_win, after_loss, after_confirm}
use Rattle.wb_history.specs.Lawful.{address, Knows, Lawful, IsConsistent}
use Rattle.wb_history.specs.Plays.{SeatState, looked, read_word, read_last, stored_word, published, confirmed}
use Rattle.wb_codec.proofs.RowLaws.{row_length}
use Rattle.wb_history.proofs.Rows.{nothing_remembered, seats}
use Rattle.wb_history.proofs.Lists.{at-lt, at_same, at_nothing, at_some, at_append, at_end, at_map_back, once_append, once_one, once_take, same_list, starts-le, starts_more, next_item, starts_whole, at_read, few, at_take, both_start}

abbrev TableState : Type 0
TableState = State DrawopValue Knowledge

apart_rows : (cells r q k l : ℕ) → r < cells → q < cells → r ≢ q → k < row_words → l < row_words → address cells r k ≢ address cells q l
apart_rows cells r q k l inside inside' ne a b e = ne (omega arith)

module _ (cells : ℕ) (s : TableState) (r : Lawful cells s) where
  rows_few : length r.rows ≤ cells
  rows_few = few r.rows cells r.rows_once (λ p q e. (r.filled p q e).0)

  -- a cell is free, or it names the row of a drawop
  cell_holds : (p : ℕ) → p < cells → (get_or s.words p 0 ≡ 0) ⊎ ((q : ℕ) × (get_elem? r.rows p ≡ some q) × (q < cells) × (get_or s.words p 0 ≡ suc q))
  cell_holds p inside =
      elim (dec_le (length r.rows) p) [
        | yes d ↦ inl (r.unfilled p d inside)
        | no n ↦ let at = at_read r.rows p 0 (lt_of_not-le n) in let f = r.filled p (get_or r.rows p 0) at in inr (get_or r.rows p 0, at, f.0, f.1)
      ]

  module _ (j : ℕ) (v : Knowledge) (known : Knows cells s.words r.log r.rows r.owner j v) (unspent : 0 < v.cells) where
    seen_few : length v.seen ≤ length r.rows
    seen_few = let b = starts-le r.log v.seen known.begins in let l = r.long in omega arith

    in_log : (p : ℕ) (d : DrawopValue) → get_elem? v.seen p ≡ some d → get_elem? r.log p ≡ some d
    in_log p d e = subst (λ (l : List DrawopValue). get_elem? l p ≡ some d) known.begins.1 (at_longer v.seen known.begins.0 p d e)

    has_room : length v.seen + length v.free ≤ v.cells
    has_room =
        let all = few (r.rows ++ v.free) cells (once_append r.rows v.free r.rows_once known.free_once (λ i k a p q. (known.free_is k a q).2 i p))
        (λ i a e. ⊎_elim (λ h. (r.filled i a h).0) (λ t. (known.free_is t.0 a t.2).0) (at_append r.rows v.free i a e)) in
        let some_seen = seen_few in let same = known.sized unspent in omega (arith, all, length-append r.rows v.free)

    abbrev mine_rows : List ℕ
    mine_rows = map (λ k. get_or r.rows k 0) v.mine

    abbrev own_rows : List ℕ
    own_rows = v.free ++ mine_rows

    mine_at : (i k : ℕ) → get_elem? v.mine i ≡ some k → get_elem? r.rows k ≡ some (get_or r.rows k 0)
    mine_at i k e = let below = (known.mine_is i k e).0 in let few_seen = seen_few in at_read r.rows k 0 (omega arith)

    mine_row : (i a : ℕ) → get_elem? mine_rows i ≡ some a → (k : ℕ) × (get_elem? v.mine i ≡ some k) × (get_elem? r.rows k ≡ some a)
    mine_row i a e = grind (arith, at_map_back, mine_at)

    is_own : (i a : ℕ) → get_elem? own_rows i ≡ some a → (a < cells) × (r.owner a ≡ j)
    is_own i a e =
        ⊎_elim (λ h. let f = known.free_is i a h in (f.0, f.1)) (λ t. let b = mine_row t.0 a t.2 in ((r.filled b.0 a b.2).0, (known.mine_is t.0 b.0 b.1).1 a b.2)) (at_append v.free mine_rows i a e)

    mine_rows_once : Once mine_rows
    mine_rows_once i k a x y =
        let b = mine_row i a x in
        let c = mine_row k a y in
        known.mine_once i k c.0 (subst (λ n. get_elem? v.mine i ≡ some n) (r.rows_once b.0 c.0 a b.2 c.2) b.1) c.1

    own_once : Once own_rows
    own_once = once_append v.free mine_rows known.free_once mine_rows_once (λ i k a x y. let b = mine_row k a y in (known.free_is i a x).2 b.0 b.2)

    own_few : length v.free + length v.mine ≤ v.cells
    own_few =
        let count = few own_rows cells own_once (λ i a e. (is_own i a e).0) in let same = known.sized unspent in omega (arith, count, length-append v.free mine_rows, length-map v.mine (λ k. get_or r.rows k 0))

    at_one : (q i a : ℕ) → get_elem? (q ∷ []) i ≡ some a → q ≡ a
    at_one q zero a e = some-injective q a e
    at_one q (suc i) a e = absurd (some-ne-none a (sym e))

    crowd : HasAllRows v → (p q : ℕ) → get_elem? r.rows p ≡ some q → r.owner q ≢ j → ⊥
    crowd all p q at other =
        let count = few ((q ∷ []) ++ own_rows) cells (once_append (q ∷ []) own_rows (once_one q) own_once (λ i k a x y. let e = at_one q i a x in other (ap r.owner e ∙ (is_own k a y).1)))
        (λ i a e. ⊎_elim (λ h. subst (λ n. n < cells) (at_one q i a h) (r.filled p q at).0) (λ t. (is_own t.0 a t.2).0) (at_append (q ∷ []) own_rows i a e)) in
        let same = known.sized unspent in
        omega (arith, count, length-append v.free mine_rows, length-map v.mine (λ k. get_or r.rows k 0))

    -- a pass that has all rows owns each place
    owns_places : HasAllRows v → (p q : ℕ) → get_elem? r.rows p ≡ some q → Contains v.mine p
    owns_places all p q at = dite (ℕ_discrete (r.owner q) j) (λ own. known.mine_all p q at own) (λ other. absurd (crowd all p q at other))

    pub consistent : IsConsistent v
    consistent = record {
      valid = all_are IsDrawop v.seen (λ p d e. all_at IsDrawop r.log p d r.valid (in_log p d e));
      names_once = history_is v.seen (λ p q d e x y same. one_place r.log p q d e r.names_once (in_log p d x) (in_log q e y) same);
      room = has_room;
      own = own_few;
      rows = λ i q e. let below = (known.free_is i q e).0 in let same = known.sized unspent in omega arith;
      mine_is = λ i p e. (known.mine_is i p e).0;
      mine_once = known.mine_once;
      whole = λ all p below. let few_seen = seen_few in owns_places all p (get_or r.rows p 0) (at_read r.rows p 0 (omega arith));
    }

    -- of a pass that has all rows the next cell is free
    next_is_free : HasAllRows v → length v.seen < cells → get_or s.words (length v.seen) 0 ≡ 0
    next_is_free all inside = ⊎_elim (λ z. z) (λ t. let m = at_contained v.mine (length v.seen) (owns_places all (length v.seen) t.0 t.1) in let b = (known.mine_is m.0 (length v.seen) m.1).0 in absurd (omega arith)) (cell_holds (length v.seen) inside)

  -- a step that changes no word
  unmoved : (i me : ℕ) (cs : List (ℕ × DrawopValue)) (w : Knowledge) → Knows cells s.words r.log r.rows r.owner me w → Lawful cells (stepped s i (get_or s.words i 0) me cs w keeps)
  unmoved i me cs w known = subst (λ (ws : List ℕ). Lawful cells record { words = ws; homes = s.homes; views = set s.views me w }) (sym (set-get_or s.words i 0)) record {
    log = r.log;
    rows = r.rows;
    owner = r.owner;
    history = r.history;
    seated = λ q. let a = r.seated q in omega (arith, length-set s.views me w);
    each_pass = seats (Knows cells s.words r.log r.rows r.owner) s.views me w known (λ j u _ e. r.each_pass j u e);
  }

-- the pass looks at a cell, which it finds free, or which names the row of the next drawop
looking_at : (cells : ℕ) (words : List ℕ) (log : List DrawopValue) (rows : List ℕ) (owner : ℕ → ℕ) (j : ℕ) (v : Knowledge) → Knows cells words log rows owner j v → (word found : ℕ)
    → (found ≡ 0) ⊎ ((q : ℕ) × (get_elem? rows (length v.seen) ≡ some q) × (q < cells) × (found ≡ suc q)) → Knows cells words log rows owner j (after_look v word found)
looking_at cells words log rows owner j v known word found holds = record {
  sees = known.sees;
  owns = known.owns;
  remembers = record {
    looks = λ h. ⊎_elim (λ z. absurd (omega arith)) (λ t. let e = t.3 in let back : t.0 ≡ found - 1 = omega arith in t.1 ∙ ap some back) holds;
    reads = λ k n e. absurd (at_nothing k n e);
    stores = λ k n q e. absurd (at_nothing k n e);
  };
}

pub looks : (cells slots id : ℕ) (m : SeatState) (word : ℕ) → word ≡ length m.0.seen → 0 < m.0.cells → length m.0.seen < m.0.cells → Allows (Lawful cells) slots id m word (λ n. n) (looked (step slots word 0 0 none) m)
looks cells slots id m word is unspent inside s r _ at small =
    let v = m.0 in
    let known = r.each_pass id v at in
    let same = known.sized unspent in
    let found = get_or s.words word 0 in
    let w = after_look v word found in
    let here : word < cells = omega arith in
    let holds = subst (λ n. (get_or s.words n 0 ≡ 0) ⊎ ((q : ℕ) × (get_elem? r.rows n ≡ some q) × (q < cells) × (get_or s.words n 0 ≡ suc q))) is (cell_holds cells s r word here) in
    let holds' = subst (λ n. (get_or s.words n 0 ≡ 0) ⊎ ((q : ℕ) × (get_elem? r.rows (length v.seen) ≡ some q) × (q < cells) × (get_or s.words n 0 ≡ suc q))) (sym is) holds in
    let next = unmoved cells s r word id m.1 w (looking_at cells s.words r.log r.rows r.owner id v known word found holds') in
    let at' = set_here s.views id w (at-lt s.views id v at) in (
      w,
      keeps,
      tt,
      next,
      (
        refl,
        refl,
        ⊎_elim (λ z. omega arith) (λ t. let e = t.3 in let l = t.2 in omega arith) holds',
        (λ all. ap (λ n. get_or s.words n 0) is ∙ next_is_free cells s r id v known unspent all (omega arith)),
        consistent cells (stepped s word found id m.1 w keeps) next id w (next.each_pass id w at') unspent,
      ),
    )

-- the view after a step that changes no word, where the pass then knows what is so
module _ (cells slots id : ℕ) (m : SeatState) (unspent : 0 < m.0.cells) (s : TableState) (r : Lawful cells s) (at : get_elem? s.views id ≡ some m.0) where
  abbrev v : Knowledge
  v = m.0

  unmoved_consistent : (word : ℕ) (w : Knowledge) → 0 < w.cells → Knows cells s.words r.log r.rows r.owner id w → IsConsistent w
  unmoved_consistent word w some_cells known =
      let next = unmoved cells s r word id m.1 w known in
      consistent cells (stepped s word (get_or s.words word 0) id m.1 w keeps) next id w (next.each_pass id w (set_here s.views id w (at-lt s.views id m.0 at))) some_cells

pub reads_word : (cells slots id : ℕ) (m : SeatState) (word : ℕ) → 0 < m.0.cells → 0 < m.0.looking → length m.0.read < row_words → word ≡ address cells (m.0.looking - 1) (length m.0.read) → Allows (Lawful cells) slots id m word (λ n. n) (read_word (step slots word 0 0 none) m)
reads_word cells slots id m word unspent some_row short is s r _ at small =
    let v = m.0 in
    let known = r.each_pass id v at in
    let found = get_or s.words word 0 in
    let w = after_read v word found in
    let knows : Knows cells s.words r.log r.rows r.owner id w = record {
      sees = known.sees;
      owns = known.owns;
      remembers = record {
        looks = known.looks;
        reads = λ k n e. ⊎_elim (λ h. known.reads k n h)
            (λ t. let f = t.0 in (some_row, (omega arith), subst (λ z. get_or s.words (address cells (v.looking - 1) z) 0 ≡ n) (sym f) (ap (λ z. get_or s.words z 0) (sym is) ∙ t.1)))
            (at_end v.read found k n e);
        stores = known.stores;
      };
    } in
    (w, keeps, tt, unmoved cells s r word id m.1 w knows, (refl, refl, unmoved_consistent cells slots id m unspent s r at word w unspent knows))

pub reads_last : (cells slots id : ℕ) (m : SeatState) (word : ℕ) → 0 < m.0.cells → 0 < m.0.looking → length m.0.read + 1 ≡ row_words → word ≡ address cells (m.0.looking - 1) (length m.0.read) → Allows (Lawful cells) slots id m word (λ n. n) (read_last (step slots word 0 0 none) m)
reads_last cells slots id m word unspent some_row long is s r _ at small =
    let v = m.0 in
    let known = r.each_pass id v at in
    let found = get_or s.words word 0 in
    let row_there = known.looks some_row in
    let inside = at-lt r.rows (length v.seen) (v.looking - 1) row_there in
    let same = r.long in
    let next = at_some r.log (length v.seen) (omega arith) in
    let d = next.0 in
    let w = after_drawop v d word found in
    let knows : Knows cells s.words r.log r.rows r.owner id w = record {
      sees = record { sized = known.sized; begins = next_item r.log v.seen d known.begins next.1; joined_begins = known.joined_begins };
      owns = record {
        free_is = known.free_is;
        free_once = known.free_once;
        mine_is = λ i p e. let b = known.mine_is i p e in let l = b.0 in (omega (arith, length-append v.seen (d ∷ [])), b.1);
        mine_once = known.mine_once;
        mine_all = known.mine_all;
      };
      remembers = record { looks = λ h. absurd (omega arith); reads = λ k n e. absurd (at_nothing k n e); stores = known.stores };
    } in
    let read_so : (k a b : ℕ) → get_elem? (row d) k ≡ some a → get_elem? (v.read ++ found ∷ []) k ≡ some b → a ≡ b = λ k a b x y.
    let stands = r.records (length v.seen) (v.looking - 1) d row_there next.1 k a x in
    ⊎_elim (λ h. sym stands ∙ (known.reads k b h).2) (λ t. sym stands ∙ (ap (λ z. get_or s.words (address cells (v.looking - 1) z) 0) t.0 ∙ (ap (λ z. get_or s.words z 0) (sym is) ∙ t.1))) (at_end v.read found k b y) in (
      w,
      keeps,
      tt,
      unmoved cells s r word id m.1 w knows,
      (
        refl,
        (d, same_list (row d) (v.read ++ found ∷ []) (let wide = row_length d in omega (arith, length-append v.read (found ∷ []))) read_so, all_at IsDrawop r.log (length v.seen) d r.valid next.1, refl),
        unmoved_consistent cells slots id m unspent s r at word w unspent knows,
      ),
    )

-- a store into a free row of the pass id
module _ (cells : ℕ) (s : TableState) (r : Lawful cells s) (id q k : ℕ) (own : r.owner q ≡ id) (below : q < cells) (free : (p : ℕ) → get_elem? r.rows p ≡ some q → ⊥) (short : k < row_words) (n : ℕ) where
  abbrev written : List ℕ
  written = set s.words (address cells q k) n

  row_stays : (a l : ℕ) → a < cells → a ≢ q → l < row_words → get_or written (address cells a l) 0 ≡ get_or s.words (address cells a l) 0
  row_stays a l inside ne h = get_or-set_other s.words (address cells q k) (address cells a l) n 0 (apart_rows cells a q l k inside below ne h short)

  cell_stays : (p : ℕ) → p < cells → get_or written p 0 ≡ get_or s.words p 0
  cell_stays p h = get_or-set_other s.words (address cells q k) p n 0 (λ e. omega arith)

  others_after_store : (j : ℕ) (u : Knowledge) → j ≢ id → Knows cells s.words r.log r.rows r.owner j u → Knows cells written r.log r.rows r.owner j u
  others_after_store j u other known = record {
    sees = known.sees;
    owns = known.owns;
    remembers = record {
      looks = known.looks;
      reads = λ l x e. let old = known.reads l x e in (
        old.0,
        old.1,
        row_stays (u.looking - 1) l (r.filled (length u.seen) (u.looking - 1) (known.looks old.0)).0 (λ same. free (length u.seen) (subst (λ z. get_elem? r.rows (length u.seen) ≡ some z) same (known.looks old.0))) old.1 ∙ old.2,
      );
      stores = λ l x a e last. let old = known.stores l x a e last in (old.0, row_stays a l (known.free_is (length u.free - 1) a last).0 (λ same. other (sym (known.free_is (length u.free - 1) a last).1 ∙ (ap r.owner same ∙ own))) old.0 ∙ old.1);
    };
  }

pub stores_word : (cells slots id : ℕ) (m : SeatState) (word n q : ℕ) → 0 < m.0.cells → get_elem? m.0.free (length m.0.free - 1) ≡ some q → length m.0.stored < row_words → word ≡ address cells q (length m.0.stored)
    → Allows (Lawful cells) slots id m word (λ _. n) (λ _. stored_word (step slots word n 0 none) m n)
stores_word cells slots id m word n q unspent last short is s r _ at small =
    let v = m.0 in
    let k = length v.stored in
    let known = r.each_pass id v at in
    let w = after_store v word n in
    let mine = known.free_is (length v.free - 1) q last in
    let wide = r.wide in
    let below = mine.0 in
    let after = written cells s r id q k mine.1 mine.0 mine.2 short n in
    let cell = cell_stays cells s r id q k mine.1 mine.0 mine.2 short n in
    let row' = row_stays cells s r id q k mine.1 mine.0 mine.2 short n in
    let few_rows = rows_few cells s r in
    let knows : Knows cells after r.log r.rows r.owner id w = record {
      sees = known.sees;
      owns = known.owns;
      remembers = record {
        looks = known.looks;
        reads = λ l x e. let old = known.reads l x e in (
          old.0,
          old.1,
          row' (v.looking - 1) l (r.filled (length v.seen) (v.looking - 1) (known.looks old.0)).0 (λ same. mine.2 (length v.seen) (subst (λ z. get_elem? r.rows (length v.seen) ≡ some z) same (known.looks old.0))) old.1 ∙ old.2,
        );
        stores = λ l x a e la. let same = at_same v.free (length v.free - 1) a q la last in
            subst (λ z. (l < row_words) × (get_or after (address cells z l) 0 ≡ x)) (sym same)
            (⊎_elim
            (λ h. let old = known.stores l x q h last in let short' = at-lt v.stored l x h in (old.0, get_or-set_other s.words (address cells q k) (address cells q l) n 0 (λ e. omega arith) ∙ old.1))
            (λ t. let f = t.0 in ((omega arith), ap (λ z. get_or after (address cells q z) 0) f ∙ (get_or-set_same s.words (address cells q k) n 0 (omega arith) ∙ t.1)))
            (at_end v.stored n l x e));
      };
    } in
    let next : Lawful cells (stepped s (address cells q k) n id m.1 w keeps) = record {
      log = r.log;
      rows = r.rows;
      owner = r.owner;
      history = record {
        wide = length-set s.words (address cells q k) n ∙ r.wide;
        long = r.long;
        filled = λ p a e. let f = r.filled p a e in let inside = at-lt r.rows p a e in (f.0, cell p (omega arith) ∙ f.1);
        unfilled = λ p h l. cell p l ∙ r.unfilled p h l;
        rows_once = r.rows_once;
        records = λ p a d x y l z e. row' a l (r.filled p a x).0 (λ same. mine.2 p (subst (λ t. get_elem? r.rows p ≡ some t) same x)) (let lt = at-lt (row d) l z e in let long = row_length d in omega arith) ∙ r.records p a d x y l z e;
        valid = r.valid;
        names_once = r.names_once;
      };
      seated = λ a. let b = r.seated a in omega (arith, length-set s.views id w);
      each_pass = seats (Knows cells after r.log r.rows r.owner) s.views id w knows (λ j u other e. others_after_store cells s r id q k mine.1 mine.0 mine.2 short n j u other (r.each_pass j u e));
    } in
    let next' = subst (λ a. Lawful cells (stepped s a n id m.1 w keeps)) (sym is) next in
    (w, keeps, tt, next', (refl, refl, consistent cells (stepped s word n id m.1 w keeps) next' id w (next'.each_pass id w (set_here s.views id w (at-lt s.views id v at))) unspent))

-- the exchange of the free cell after the history for a row in which the record of d stands
module _ (cells : ℕ) (s : TableState) (r : Lawful cells s) (id q : ℕ) (d : DrawopValue) (own : r.owner q ≡ id) (below : q < cells) (free : (p : ℕ) → get_elem? r.rows p ≡ some q → ⊥) (inside : length r.rows < cells) where
  abbrev filled_words : List ℕ
  filled_words = set s.words (length r.rows) (suc q)

  abbrev log_after : List DrawopValue
  log_after = r.log ++ d ∷ []

  abbrev rows_after : List ℕ
  rows_after = r.rows ++ q ∷ []

  other_word : (a : ℕ) → a ≢ length r.rows → get_or filled_words a 0 ≡ get_or s.words a 0
  other_word a ne = get_or-set_other s.words (length r.rows) a (suc q) 0 ne

  others_after_win : (j : ℕ) (u : Knowledge) → j ≢ id → length u.seen ≤ length r.rows → Knows cells s.words r.log r.rows r.owner j u → Knows cells filled_words log_after rows_after r.owner j u
  others_after_win j u other few_seen known = record {
    sees = record { sized = known.sized; begins = starts_more r.log u.seen (d ∷ []) known.begins; joined_begins = starts_more r.log u.joined (d ∷ []) known.joined_begins };
    owns = record {
      free_is = λ i a e. let f = known.free_is i a e in
          (f.0, f.1, λ p h. ⊎_elim (λ old. f.2 p old) (λ t. other (sym f.1 ∙ (ap r.owner (sym t.1) ∙ own))) (at_end r.rows q p a h));
      free_once = known.free_once;
      mine_is = λ i p e. let f = known.mine_is i p e in let b = f.0 in (b, λ a h. ⊎_elim (λ old. f.1 a old) (λ t. let c = t.0 in absurd (omega arith)) (at_end r.rows q p a h));
      mine_once = known.mine_once;
      mine_all = λ p a h owned. ⊎_elim (λ old. known.mine_all p a old owned) (λ t. absurd (other (sym owned ∙ (ap r.owner (sym t.1) ∙ own)))) (at_end r.rows q p a h);
    };
    remembers = record {
      looks = λ h. at_longer r.rows (q ∷ []) (length u.seen) (u.looking - 1) (known.looks h);
      reads = λ l x e. let old = known.reads l x e in (old.0, old.1, other_word (address cells (u.looking - 1) l) (λ e. omega arith) ∙ old.2);
      stores = λ l x a e last. let old = known.stores l x a e last in (old.0, other_word (address cells a l) (λ e. omega arith) ∙ old.1);
    };
  }

wins : (cells slots id : ℕ) (m : SeatState) (d : DrawopValue) (q : ℕ) → 0 < m.0.cells → length m.0.seen < cells → get_elem? m.0.free (length m.0.free - 1) ≡ some q → m.0.stored ≡ row d → IsDrawop d → (HoldsName m.0.seen d.name → ⊥)
    → (s : TableState) (r : Lawful cells s) → get_elem? s.views id ≡ some m.0 → get_or s.words (length m.0.seen) 0 ≡ 0
    → Lawful cells (stepped s (length m.0.seen) (suc q) id m.1 (after_win m.0 d (length m.0.seen)) keeps)
wins cells slots id m d q unspent inside last stored_is valid_d lacks s r at found =
    let v = m.0 in
    let known = r.each_pass id v at in
    let mine = known.free_is (length v.free - 1) q last in
    let w = after_win v d (length v.seen) in
    let wide = r.wide in
    let long = r.long in
    let few_seen = seen_few cells s r id v known unspent in
    let at_end_of_rows : length v.seen ≡ length r.rows = elim (dec_le (length r.rows) (length v.seen)) [
      | yes h ↦ omega arith
      | no n ↦ let f = (r.filled (length v.seen) (get_or r.rows (length v.seen) 0) (at_read r.rows (length v.seen) 0 (lt_of_not-le n))).1 in absurd (omega arith)
    ] in
    let all_seen : r.log ≡ v.seen = starts_whole r.log v.seen known.begins (omega arith) in
    let inside' : length r.rows < cells = omega arith in
    let words' = filled_words cells s r id q d mine.1 mine.0 mine.2 inside' in
    let log' = log_after cells s r id q d mine.1 mine.0 mine.2 inside' in
    let rows' = rows_after cells s r id q d mine.1 mine.0 mine.2 inside' in
    let word' = other_word cells s r id q d mine.1 mine.0 mine.2 inside' in
    let begins' : IsPrefix (v.seen ++ d ∷ []) log' = next_item log' v.seen d (starts_more r.log v.seen (d ∷ []) known.begins) (at_last' r.log d (length v.seen) (omega arith)) in
    let knows : Knows cells words' log' rows' r.owner id w = record {
      sees = record { sized = known.sized; begins = begins'; joined_begins = starts_more r.log v.joined (d ∷ []) known.joined_begins };
      owns = record {
        free_is = λ i a e. let t = at_take (length v.free - 1) v.free i a e in let f = known.free_is i a t.1 in let lt = t.0 in
            (f.0, f.1, λ p h. ⊎_elim (λ old. f.2 p old) (λ c. let same = known.free_once i (length v.free - 1) q (subst (λ z. get_elem? v.free i ≡ some z) (sym c.1) t.1) last in absurd (omega arith)) (at_end r.rows q p a h));
        free_once = once_take (length v.free - 1) v.free known.free_once;
        mine_is = λ i p e. ⊎_elim
            (λ h. let f = known.mine_is i p h in let b = f.0 in (omega (arith, length-append v.seen (d ∷ [])), λ a x. ⊎_elim (λ old. f.1 a old) (λ c. let c0 = c.0 in absurd (omega arith)) (at_end r.rows q p a x)))
            (λ t. let same = t.1 in (omega (arith, length-append v.seen (d ∷ [])), λ a x. ⊎_elim (λ old. let lt = at-lt r.rows p a old in absurd (omega arith)) (λ c. ap r.owner (sym c.1) ∙ mine.1) (at_end r.rows q p a x)))
            (at_end v.mine (length v.seen) i p e);
        mine_once = once_append v.mine (length v.seen ∷ []) known.mine_once (once_one (length v.seen)) (λ i k a x y. let b = (known.mine_is i a x).0 in let e = at_end [] (length v.seen) k a y in
            ⊎_elim (λ h. at_nothing k a h) (λ t. let same = t.1 in omega arith) e);
        mine_all = λ p a x owned. ⊎_elim (λ old. Contains-append_left v.mine (length v.seen ∷ []) p (known.mine_all p a old owned))
            (λ c. subst (Contains (v.mine ++ length v.seen ∷ [])) (at_end_of_rows ∙ sym c.0) (Contains-push v.mine (length v.seen))) (at_end r.rows q p a x);
      };
      remembers = nothing_remembered _ _ _ _ _;
    } in
    subst (λ a. Lawful cells (stepped s a (suc q) id m.1 w keeps)) (sym at_end_of_rows) record {
      log = log';
      rows = rows';
      owner = r.owner;
      history = record {
        wide = length-set s.words (length r.rows) (suc q) ∙ r.wide;
        long = length-append r.rows (q ∷ []) ∙ (ap (λ z. z + 1) r.long ∙ sym (length-append r.log (d ∷ [])));
        filled = λ p a e. ⊎_elim (λ old. let f = r.filled p a old in let lt = at-lt r.rows p a old in (f.0, word' p (λ e. omega arith) ∙ f.1))
            (λ c. (subst (λ z. z < cells) c.1 mine.0, ap (λ z. get_or words' z 0) c.0 ∙ (get_or-set_same s.words (length r.rows) (suc q) 0 (omega arith) ∙ ap suc c.1))) (at_end r.rows q p a e);
        unfilled = λ p h l. let more = length-append r.rows (q ∷ []) in word' p (λ e. omega arith) ∙ r.unfilled p (omega arith) l;
        rows_once = once_append r.rows (q ∷ []) r.rows_once (once_one q) (λ i k a x y. ⊎_elim (λ h. at_nothing k a h) (λ t. mine.2 i (subst (λ z. get_elem? r.rows i ≡ some z) (sym t.1) x)) (at_end [] q k a y));
        records = λ p a e x y l n z. word' (address cells a l) (λ e. omega arith) ∙ ⊎_elim
            (λ old. ⊎_elim (λ was. r.records p a e old was l n z) (λ c. let c0 = c.0 in let lt = at-lt r.rows p a old in absurd (omega arith)) (at_end r.log d p e y))
            (λ c. ⊎_elim (λ was. let c0 = c.0 in let lt = at-lt r.log p e was in absurd (omega arith))
            (λ t. subst (λ b. get_or s.words (address cells b l) 0 ≡ n) c.1 (known.stores l n q (subst (λ b. get_elem? b l ≡ some n) (ap row (sym t.1) ∙ sym stored_is) z) last).1) (at_end r.log d p e y))
            (at_end r.rows q p a x);
        valid = All-push IsDrawop r.log d r.valid valid_d;
        names_once = history_with-is (length r.log + 1) r.log d (New (length r.log)) r.names_once ((refl, subst (λ (l : List DrawopValue). HoldsName l d.name → ⊥) (sym all_seen) lacks), omega arith);
      };
      seated = λ a. let b = r.seated a in omega (arith, length-set s.views id w);
      each_pass = seats (Knows cells words' log' rows' r.owner) s.views id w knows (λ j u other e. others_after_win cells s r id q d mine.1 mine.0 mine.2 inside' j u other (seen_under j u e) (r.each_pass j u e));
    }
  where
    at_last' : {A : Type 0} (l : List A) (a : A) (n : ℕ) → n ≡ length l → get_elem? (l ++ a ∷ []) n ≡ some a
    at_last' l a n e = at_last l a n (sym e)

    seen_under : (j : ℕ) (u : Knowledge) → get_elem? s.views j ≡ some u → length u.seen ≤ length r.rows
    seen_under j u e = let b = starts-le r.log u.seen (r.each_pass j u e).begins in let l = r.long in omega arith

-- the pass lost the exchange
losing : (cells : ℕ) (words : List ℕ) (log : List DrawopValue) (rows : List ℕ) (owner : ℕ → ℕ) (j : ℕ) (v : Knowledge) → Knows cells words log rows owner j v → (word found : ℕ)
    → (found ≡ 0) ⊎ ((q : ℕ) × (get_elem? rows (length v.seen) ≡ some q) × (q < cells) × (found ≡ suc q)) → Knows cells words log rows owner j (after_loss v word found)
losing cells words log rows owner j v known word found holds = grind (arith, common_steps, looking_at, at_nothing)

pub publishes : (cells slots id : ℕ) (m : SeatState) (word new : ℕ) (d : DrawopValue) (q : ℕ) → word ≡ length m.0.seen → new ≡ q + 1 → 0 < m.0.cells → length m.0.seen < m.0.cells
    → get_elem? m.0.free (length m.0.free - 1) ≡ some q → m.0.stored ≡ row d → IsDrawop d → (HoldsName m.0.seen d.name → ⊥)
    → Allows (Lawful cells) slots id m word (λ x. either (eqb x 0) new x) (published (step slots word 0 new (some d)) m)
publishes cells slots id m word new d q is new_is unspent inside last stored_is valid_d lacks s r _ at small =
    let v = m.0 in
    let known = r.each_pass id v at in
    let same = known.sized unspent in
    let x = get_or s.words word 0 in
    let here : word < cells = omega arith in
    let here' : length v.seen < cells = omega arith in
    let holds = subst (λ n. (get_or s.words word 0 ≡ 0) ⊎ ((a : ℕ) × (get_elem? r.rows n ≡ some a) × (a < cells) × (get_or s.words word 0 ≡ suc a))) is (cell_holds cells s r word here) in
    let bound : x ≤ v.cells = ⊎_elim (λ z. omega arith) (λ t. let e = t.3 in let l = t.2 in omega arith) holds in
    let alone : HasAllRows v → x ≡ 0 = λ all. ap (λ n. get_or s.words n 0) is ∙ next_is_free cells s r id v known unspent all here' in
    dite (ℕ_discrete x 0)
    (λ hit.
    let w = after_win v d word in
    let won = wins cells slots id m d q unspent here' last stored_is valid_d lacks s r at (ap (λ n. get_or s.words n 0) (sym is) ∙ hit) in
    let won' = subst (λ n. Lawful cells (stepped s n (suc q) id m.1 (after_win v d n) keeps)) (sym is) won in
    let new_is' : suc q ≡ new = omega arith in
    let won'' = subst (λ n. Lawful cells (stepped s word n id m.1 w keeps)) new_is' won' in
    let next = subst (λ b. Lawful cells (stepped s word (either b new x) id m.1 w keeps)) (sym (eq-eqb x 0 hit)) won'' in (
      w,
      keeps,
      tt,
      next,
      (
        refl,
        (λ _. (d, refl, refl)),
        (λ miss. absurd (miss hit)),
        bound,
        alone,
        consistent cells (stepped s word new id m.1 w keeps) won'' id w (won''.each_pass id w (set_here s.views id w (at-lt s.views id v at))) unspent,
      ),
    ))
    (λ miss.
    let w = after_loss v word x in
    let knows = losing cells s.words r.log r.rows r.owner id v known word x holds in
    let next = subst (λ b. Lawful cells (stepped s word (either b new x) id m.1 w keeps)) (sym (ne_eqb x 0 miss)) (unmoved cells s r word id m.1 w knows) in
    (w, keeps, tt, next, (refl, (λ hit. absurd (miss hit)), (λ _. refl), bound, alone, unmoved_consistent cells slots id m unspent s r at word w unspent knows)))

pub confirms : (cells slots id : ℕ) (m : SeatState) (word : ℕ) → 0 < m.0.cells → Allows (Lawful cells) slots id m word (λ n. n) (confirmed (step slots word 0 0 none) m)
confirms cells slots id m word unspent s r _ at small =
    let v = m.0 in
    let known = r.each_pass id v at in
    let found = get_or s.words word 0 in
    let w = after_confirm v word found in
    let knows : Knows cells s.words r.log r.rows r.owner id w = record {
      sees = record { sized = known.sized; begins = known.begins; joined_begins = (r.log, refl) };
      owns = known.owns;
      remembers = known.remembers;
    } in
    (w, keeps, tt, unmoved cells s r word id m.1 w knows, (refl, refl, (λ h. both_start r.log v.seen v.joined known.begins known.joined_begins h), unmoved_consistent cells slots id m unspent s r at word w unspent knows))
