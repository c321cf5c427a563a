-- Two maps, one after the other, are a map.
use Rattle.std.proofs.Common.{◌≡◌, List, [], ◌∷◌, ◌++◌, ◌∙◌, ap, append_assoc, append-nil, refl, subst, sym, ⊎_elim}
use Rattle.std.specs.Prelude.{Contains}
use Rattle.std.proofs.lemmas.List.Elements.{Contains-append_cases, Contains-append_left, Contains-append_right}
use Rattle.wb_names.specs.Values.{DrawopValue}
use Rattle.wb_names.proofs.Listings.{Contains-none}
use Rattle.wb_codec.specs.declared.datagram.Datagram.{Datagram}
use Rattle.wb_laws_machines.specs.Machines.{AreAllTaken, Machine, after_all, drawn_by_all, gained_by_all, sent_by_all}
use Rattle.wb_laws_machines.specs.Maps.{HasSame, IsMap, Map, both, spread}

-- ---- events after events

module _ {T F : Type 0} (m : Machine T F) where
  pub after_both : (one other : List F) (t : T) → after_all m (one ++ other) t ≡ after_all m other (after_all m one t)
  after_both [] other t = refl
  after_both (e ∷ one) other t = after_both one other (m.after e t)

  pub drawn_by_both : (one other : List F) (t : T) → drawn_by_all m (one ++ other) t ≡ drawn_by_all m other (after_all m one t) ++ drawn_by_all m one t
  drawn_by_both [] other t = sym (append-nil (drawn_by_all m other t))
  drawn_by_both (e ∷ one) other t =
      ap (λ (ds : List DrawopValue). ds ++ m.drawn e t) (drawn_by_both one other (m.after e t))
      ∙ append_assoc (drawn_by_all m other (after_all m one (m.after e t))) (drawn_by_all m one (m.after e t)) (m.drawn e t)

  pub gained_by_both : (one other : List F) (t : T) → gained_by_all m (one ++ other) t ≡ gained_by_all m one t ++ gained_by_all m other (after_all m one t)
  gained_by_both [] other t = refl
  gained_by_both (e ∷ one) other t =
      ap (λ (ds : List DrawopValue). m.gained e t ++ ds) (gained_by_both one other (m.after e t))
      ∙ sym (append_assoc (m.gained e t) (gained_by_all m one (m.after e t)) (gained_by_all m other (after_all m one (m.after e t))))

  pub sent_by_both : (one other : List F) (t : T) → sent_by_all m (one ++ other) t ≡ sent_by_all m one t ++ sent_by_all m other (after_all m one t)
  sent_by_both [] other t = refl
  sent_by_both (e ∷ one) other t =
      ap (λ (vs : List Datagram). m.sends e t ++ vs) (sent_by_both one other (m.after e t))
      ∙ sym (append_assoc (m.sends e t) (sent_by_all m one (m.after e t)) (sent_by_all m other (after_all m one (m.after e t))))

  pub both_taken : (one other : List F) (t : T) → AreAllTaken m one t → AreAllTaken m other (after_all m one t) → AreAllTaken m (one ++ other) t
  both_taken [] other t a b = b
  both_taken (e ∷ one) other t a b = (a.0, both_taken one other (m.after e t) a.1 b)

-- ---- events below events

module _ {S E T F : Type 0} {up : Machine S E} {low : Machine T F} {via : Map S E T F} (o : IsMap up low via) where
  pub spread_goes : (events : List E) (s : S) → after_all low (spread up via events s) (via.state s) ≡ via.state (after_all up events s)
  spread_goes [] s = refl
  spread_goes (e ∷ events) s =
      after_both low (via.events e s) (spread up via events (up.after e s)) (via.state s)
      ∙ ap (after_all low (spread up via events (up.after e s))) (o.goes e s)
      ∙ spread_goes events (up.after e s)

  pub spread_draws : (events : List E) (s : S) → drawn_by_all low (spread up via events s) (via.state s) ≡ drawn_by_all up events s
  spread_draws [] s = refl
  spread_draws (e ∷ events) s =
      drawn_by_both low (via.events e s) (spread up via events (up.after e s)) (via.state s)
      ∙ ap (λ (t : T). drawn_by_all low (spread up via events (up.after e s)) t ++ drawn_by_all low (via.events e s) (via.state s)) (o.goes e s)
      ∙ ap (λ (ds : List DrawopValue). ds ++ drawn_by_all low (via.events e s) (via.state s)) (spread_draws events (up.after e s))
      ∙ ap (λ (ds : List DrawopValue). drawn_by_all up events (up.after e s) ++ ds) (o.draws e s)

  pub spread_gains : (events : List E) (s : S) (d : DrawopValue) → Contains (gained_by_all low (spread up via events s) (via.state s)) d → Contains (gained_by_all up events s) d
  spread_gains [] s d c = c
  spread_gains (e ∷ events) s d c =
      let rest = spread up via events (up.after e s) in
      let one = gained_by_all low (via.events e s) (via.state s) in
      ⊎_elim
      (λ (now : Contains one d). Contains-append_left (up.gained e s) (gained_by_all up events (up.after e s)) d (o.gains e s d now))
      (λ (then : Contains (gained_by_all low rest (after_all low (via.events e s) (via.state s))) d).
      Contains-append_right (up.gained e s) (gained_by_all up events (up.after e s)) d (spread_gains events (up.after e s) d (subst (λ (t : T). Contains (gained_by_all low rest t) d) (o.goes e s) then)))
      (Contains-append_cases one (gained_by_all low rest (after_all low (via.events e s) (via.state s))) d
      (subst (λ (ds : List DrawopValue). Contains ds d) (gained_by_both low (via.events e s) rest (via.state s)) c))

  pub sound_after : (events : List E) (s : S) → via.IsSound s → via.IsSound (after_all up events s)
  sound_after [] s is = is
  sound_after (e ∷ events) s is = sound_after events (up.after e s) (o.stays e s is)

  pub spread_taken : (events : List E) (s : S) → via.IsSound s → AreAllTaken up events s → AreAllTaken low (spread up via events s) (via.state s)
  spread_taken [] s is taken = tt
  spread_taken (e ∷ events) s is taken =
      both_taken low (via.events e s) (spread up via events (up.after e s)) (via.state s) (o.takes e s is taken.0)
      (subst (AreAllTaken low (spread up via events (up.after e s))) (sym (o.goes e s)) (spread_taken events (up.after e s) (o.stays e s is) taken.1))

  pub spread_says : (events : List E) (s : S) → via.IsSound s → AreAllTaken up events s → (v : Datagram) → Contains (sent_by_all up events s) v
      → HasSame (sent_by_all low (spread up via events s) (via.state s)) v
  spread_says [] s is taken v c = absurd (Contains-none v c)
  spread_says (e ∷ events) s is taken v c =
      let rest = spread up via events (up.after e s) in
      let one = sent_by_all low (via.events e s) (via.state s) in
      let more = sent_by_all low rest (after_all low (via.events e s) (via.state s)) in
      let all = sym (sent_by_both low (via.events e s) rest (via.state s)) in
      ⊎_elim
      (λ (now : Contains (up.sends e s) v). let w = o.says e s is taken.0 v now in
      (w.0, subst (λ (vs : List Datagram). Contains vs w.0) all (Contains-append_left one more w.0 w.1), w.2))
      (λ (then : Contains (sent_by_all up events (up.after e s)) v). let w = spread_says events (up.after e s) (o.stays e s is) taken.1 v then in
      (w.0, subst (λ (vs : List Datagram). Contains vs w.0) all (Contains-append_right one more w.0 (subst (λ (t : T). Contains (sent_by_all low rest t) w.0) (sym (o.goes e s)) w.1)), w.2))
      (Contains-append_cases (up.sends e s) (sent_by_all up events (up.after e s)) v c)

-- ---- two maps

module _ {S E T F U G : Type 0} {up : Machine S E} {mid : Machine T F} {low : Machine U G} {via : Map S E T F} {on : Map T F U G} (o : IsMap up mid via) (p : IsMap mid low on) where
  pub says : (e : E) (s : S) → via.IsSound s × on.IsSound (via.state s) → up.IsTaken e s → (v : Datagram) → Contains (up.sends e s) v
      → HasSame (sent_by_all low (spread mid on (via.events e s) (via.state s)) (on.state (via.state s))) v
  says e s is taken v c =
      let w = o.says e s is.0 taken v c in
      let x = spread_says p (via.events e s) (via.state s) is.1 (o.takes e s is.0 taken) w.0 w.1 in
      (x.0, x.1, x.2 ∙ w.2)

  pub both_map : IsMap up low (both mid via on)
  both_map = record {
    member = λ s. p.member (via.state s) ∙ o.member s;
    starts = λ n. ap on.state (o.starts n) ∙ p.starts n;
    goes = λ e s. spread_goes p (via.events e s) (via.state s) ∙ ap on.state (o.goes e s);
    draws = λ e s. spread_draws p (via.events e s) (via.state s) ∙ o.draws e s;
    gains = λ e s d c. o.gains e s d (spread_gains p (via.events e s) (via.state s) d c);
    sound = λ n. (o.sound n, subst on.IsSound (sym (o.starts n)) (p.sound n));
    stays = λ e s is. (o.stays e s is.0, subst on.IsSound (o.goes e s) (sound_after p (via.events e s) (via.state s) is.1));
    takes = λ e s is taken. spread_taken p (via.events e s) (via.state s) is.1 (o.takes e s is.0 taken);
    says = says;
  }
