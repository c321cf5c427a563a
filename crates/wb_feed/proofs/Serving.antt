-- A worker's loop over the messages.
use Rattle.std.proofs.Common.{◌≡◌, ℕ, ◌+◌, ◌≤◌, Bool, true, false, true≢false, List, [], ◌∷◌, ◌++◌, refl, ap, sym, subst, ◌∙◌, arith, ◌⊎◌, ⊎_elim}
use Rattle.std.proofs.lemmas.Grind.{flat_map-append}
use Rattle.std.proofs.lemmas.List.{append-nil, map-append}
use Rattle.std.specs.Prelude.{Contains, map}
use Rattle.std.proofs.lemmas.List.Elements.{Contains-append_left, Contains-append_right}
use Rattle.wb_names.specs.Values.{DrawopValue}
use Rattle.wb_names.specs.Arrivals.{Outcome}
use Rattle.wb_board.specs.Desks.{PassValue}
use Rattle.wb_board.specs.Replies.{outcome}
use Rattle.wb_board.specs.declared.reply.Reply.{Reply}
use Rattle.wb_board.specs.declared.reply.Reply.TheVariants.{New, Again, Clash}
use Rattle.wb_feed.specs.Accepts.{Loses, Accepts}
use Rattle.wb_feed.proofs.Log.{runs_more}
use Rattle.wb_feed.proofs.Rows.{Among, loses_wider, loses_is, lost_both}
use Rattle.wb_feed.specs.declared.channel.Message.{Message}
use Rattle.wb_feed.specs.declared.channel.Message.TheVariants.{Take, End}
use Rattle.wb_feed.specs.declared.channel.ChannelView.{ChannelView}
use Rattle.wb_feed.specs.Inside.Channel.{channel_view, receives, AreBelow, Follows}
use Rattle.wb_feed.specs.Served.{Spot, entries, takes, Rises}
use Rattle.wb_feed.specs.Inside.Serving.{received, noted, told_of, Served}

pub takes-append : (xs ys : List Message) → takes (xs ++ ys) ≡ takes xs ++ takes ys
takes-append [] ys = refl
takes-append (Take p d ∷ xs) ys = ap (λ l. (p, d) ∷ l) (takes-append xs ys)
takes-append (End ∷ xs) ys = takes-append xs ys

received-append : (xs ys : List Message) → received (xs ++ ys) ≡ received xs ++ received ys
received-append xs ys = ap (map (λ (x : ℕ × DrawopValue). x.1)) (takes-append xs ys) ∙ map-append (λ (x : ℕ × DrawopValue). x.1) (takes xs) (takes ys)

-- what was received stays so, and what is received next is received
pub received_before : (xs ys zs : List Message) → zs ≡ xs ++ ys → Among (received xs) (received zs)
received_before xs ys zs e d c = subst (λ (l : List DrawopValue). Contains l d) (sym (ap received e ∙ received-append xs ys)) (Contains-append_left (received xs) (received ys) d c)

pub received_next : (xs ys zs : List Message) → zs ≡ xs ++ ys → Among (received ys) (received zs)
received_next xs ys zs e d c = subst (λ (l : List DrawopValue). Contains l d) (sym (ap received e ∙ received-append xs ys)) (Contains-append_right (received xs) (received ys) d c)

pub noted_is : (p : ℕ) (r : Reply) → noted p (outcome r) ≡ (p, r) ∷ []
noted_is p (New i) = refl
noted_is p (Again i) = refl
noted_is p (Clash i) = refl

rises_more : (low p : ℕ) (d : DrawopValue) (ms : List Message) → Rises low (takes ms) → AreBelow p ms → low ≤ p → Rises low (takes (ms ++ Take p d ∷ []))
rises_more low p d [] r b le = (le, tt)
rises_more low p d (Take q e ∷ ms) r b le = (r.0, rises_more (q + 1) p d ms r.1 b.1 (omega (arith, b.0)))
rises_more low p d (End ∷ ms) r b le = rises_more low p d ms r b.1 le

rises_end : (low : ℕ) (ms : List Message) → Rises low (takes ms) → Rises low (takes (ms ++ End ∷ []))
rises_end low ms r = let e : takes (ms ++ End ∷ []) ≡ takes ms = takes-append ms (End ∷ []) ∙ append-nil (takes ms) in subst (λ x. Rises low x) (sym e) r

pub serves_none : (v : PassValue) (told : List (ℕ × Reply)) (h : ChannelView) → h ≡ channel_view 1 false [] [] → told ≡ [] → Served v v h told false
serves_none v told h e t = record {
  kept = loses_is (received h.got) v v refl;
  one_part = e ∙ ap (λ g. channel_view 1 false [] g) (sym (ap (λ (x : ChannelView). x.got) e));
  rises = subst (λ g. Rises 0 (takes g)) (sym (ap (λ (x : ChannelView). x.got) e)) tt;
  took = λ _. record {
    log = [];
    serves = record { runs = refl; offered = ap takes (sym (ap (λ (x : ChannelView). x.got) e)); rises = subst (λ g. Rises 0 (takes g)) (sym (ap (λ (x : ChannelView). x.got) e)) tt };
    tells = t;
  };
}

one_part_next : (h i : ChannelView) (x : Message) → h ≡ channel_view 1 false [] h.got → i ≡ receives h x → i ≡ channel_view 1 false [] i.got
one_part_next h i x e n =
    let g : i.got ≡ h.got ++ x ∷ [] = ap (λ (y : ChannelView). y.got) n in
    n ∙ (ap (λ (y : ChannelView). receives y x) e ∙ ap (λ l. channel_view 1 false [] l) (sym g))

rises_next : (h i : ChannelView) (x : Message) → i ≡ receives h x → Follows h.got x → Rises 0 (takes h.got) → Rises 0 (takes i.got)
rises_next h i (Take p d) n f r = let g : i.got ≡ h.got ++ Take p d ∷ [] = ap (λ (y : ChannelView). y.got) n in rw g (rises_more 0 p d h.got r f (omega arith))
rises_next h i End n f r = let g : i.got ≡ h.got ++ End ∷ [] = ap (λ (y : ChannelView). y.got) n in rw g (rises_end 0 h.got r)

-- the end message
pub serves_end : (v w : PassValue) (h i : ChannelView) (a : List (ℕ × Reply)) (failed : Bool) → Served v w h a failed → i ≡ receives h End → Follows h.got End → Served v w i a failed
serves_end v w h i a failed s n f =
    let g : i.got ≡ h.got ++ End ∷ [] = ap (λ (y : ChannelView). y.got) n in
    let e : takes i.got ≡ takes h.got = ap takes g ∙ (takes-append h.got (End ∷ []) ∙ append-nil (takes h.got)) in
    record {
      kept = loses_wider 0 (received h.got) (received i.got) v w (received_before h.got (End ∷ []) i.got g) s.kept;
      one_part = one_part_next h i End s.one_part n;
      rises = rises_next h i End n f s.rises;
      took = λ ok. let t = s.took ok in record { log = t.log; serves = record { runs = t.serves.runs; offered = t.serves.offered ∙ sym e; rises = rises_next h i End n f s.rises }; tells = t.tells };
    }

kept_next : (v w u : PassValue) (h i : ChannelView) (p : ℕ) (d : DrawopValue) → Loses 0 (received h.got) v w → i ≡ receives h (Take p d) → Loses 0 (d ∷ []) w u → Loses 0 (received i.got) v u
kept_next v w u h i p d l n k =
    let g : i.got ≡ h.got ++ Take p d ∷ [] = ap (λ (y : ChannelView). y.got) n in
    lost_both 0 0 (received i.got) v w u (loses_wider 0 (received h.got) (received i.got) v w (received_before h.got (Take p d ∷ []) i.got g) l)
    (loses_wider 0 (d ∷ []) (received i.got) w u (received_next h.got (Take p d ∷ []) i.got g) k)

-- an arrival while nothing is accepted any more
pub serves_failed : (v w u : PassValue) (h i : ChannelView) (p : ℕ) (d : DrawopValue) (a b : List (ℕ × Reply)) (failed : Bool) → Served v w h a failed → i ≡ receives h (Take p d) → Follows h.got (Take p d) → Loses 0 (d ∷ []) w u → Served v u i b true
serves_failed v w u h i p d a b failed s n f k = record {
  kept = kept_next v w u h i p d s.kept n k;
  one_part = one_part_next h i (Take p d) s.one_part n;
  rises = rises_next h i (Take p d) n f s.rises;
  took = λ no. absurd (true≢false no);
}

-- an arrival that is accepted
pub serves_more : (v w u : PassValue) (h i : ChannelView) (p : ℕ) (d : DrawopValue) (a b : List (ℕ × Reply)) → Served v w h a false → i ≡ receives h (Take p d) → Follows h.got (Take p d) → Loses 0 (d ∷ []) w u
    → (o : Outcome) × Accepts w d o u × (b ≡ a ++ noted p o) → Served v u i b false
serves_more v w u h i p d a b s n f k one =
    let g : i.got ≡ h.got ++ Take p d ∷ [] = ap (λ (y : ChannelView). y.got) n in
    let t = s.took refl in
    let o = one.0 in
    let x : Spot = (p, (d, o)) in
    let more : entries (t.log ++ x ∷ []) ≡ entries t.log ++ (d, o) ∷ [] = map-append (λ (s : Spot). s.1) t.log (x ∷ []) in
    record {
      kept = kept_next v w u h i p d s.kept n k;
      one_part = one_part_next h i (Take p d) s.one_part n;
      rises = rises_next h i (Take p d) n f s.rises;
      took = λ _. record {
        log = t.log ++ x ∷ [];
        serves = record {
          runs = rw more (runs_more v w u (entries t.log) d o t.serves.runs one.1);
          offered = map-append (λ (s : Spot). (s.0, s.1.0)) t.log (x ∷ []) ∙ (ap (λ l. l ++ (p, d) ∷ []) t.serves.offered ∙ sym (ap takes g ∙ takes-append h.got (Take p d ∷ [])));
          rises = rises_next h i (Take p d) n f s.rises;
        };
        tells = one.2 ∙ (ap (λ l. l ++ noted p o) t.tells ∙ sym (flat_map-append (λ (s : Spot). noted s.0 s.1.1) t.log (x ∷ []) ∙ ap (λ l. told_of t.log ++ l) (append-nil (noted p o))));
      };
    }

pub serves_turn : (v w u : PassValue) (h i : ChannelView) (p : ℕ) (d : DrawopValue) (a b : List (ℕ × Reply)) (failed r : Bool) → Served v w h a failed → i ≡ receives h (Take p d) → Follows h.got (Take p d) → Loses 0 (d ∷ []) w u
    → (r ≡ false → (failed ≡ false) × ((o : Outcome) × Accepts w d o u × (b ≡ a ++ noted p o))) → Served v u i b r
serves_turn v w u h i p d a b failed true s n f k took = serves_failed v w u h i p d a b failed s n f k
serves_turn v w u h i p d a b failed false s n f k took =
    let t = took refl in serves_more v w u h i p d a b (subst (λ (x : Bool). Served v w h a x) t.0 s) n f k t.1

pub serves_same : (v w : PassValue) (h i : ChannelView) (a : List (ℕ × Reply)) (failed : Bool) → Served v w h a failed → (i ≡ h) ⊎ (i ≡ receives h End) → Served v w i a failed
serves_same v w h i a failed s e = ⊎_elim (λ (x : i ≡ h). subst (λ (y : ChannelView). Served v w y a failed) (sym x) s) (λ (x : i ≡ receives h End). serves_end v w h i a failed s x tt) e
