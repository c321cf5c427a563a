-- What a keeper stands for, once it has accepted a call.
use Rattle.std.proofs.Common.{◌≡◌, ℕ, ◌+◌, ◌<◌, Bool, true, false, cond, Option, Some, None, List, [], ◌∷◌, ◌++◌, length, get_or, take, refl, ap, ◌∙◌, sym, subst, arith, true≢false, suc, ◌⊎◌, inl, inr, ⊎_elim, add-one, append-nil}
use Rattle.std.proofs.lemmas.Bool.{or_right}
use Rattle.std.proofs.lemmas.List.Folds.{list_any-append}
use Rattle.std.specs.Prelude.{max, map, filter, zip, nat_eq, unwrap_or, Contains, MatchOption, is_some, ◌||◌}
use Rattle.std.specs.List.{list_any}
use Rattle.std.specs.Option.{option_or}
use Rattle.std.specs.Ordering.{nat_cmp}
use Rattle.std.specs.BTreeMap.{is_at}
use Rattle.std.specs.Map.{lookup}
use Rattle.wb_names.specs.Values.{NameValue, DrawopValue, MarkValue}
use Rattle.wb_gaps.specs.Joining.{joined}
use Rattle.wb_names.specs.Orders.{same_name}
use Rattle.wb_names.specs.History.{HoldsName}
use Rattle.wb_names.specs.declared.name.PageId.{PageId}
use Rattle.std.proofs.Math.Bool.{or-false}
use Rattle.std.proofs.Math.Seq.{take-suc}
use Rattle.wb_names.proofs.Listings.{Contains-cases, Contains-none}
use Rattle.wb_names.proofs.Orders.{nat_ties, same_name-here, same_name-is}
use Rattle.wb_recovery.specs.Values.{RecoveryValue}
use Rattle.wb_recovery.specs.Events.{Event, Got, Tune}
use Rattle.wb_recovery.specs.Accepted as timers
use Rattle.wb_recovery.specs.Stopping.{receipts}
use Rattle.wb_recovery.specs.declared.tuning.Tuning.{Tuning}
use Rattle.wb_recovery.specs.declared.missed.Received.{Received}
use Rattle.wb_recovery.specs.declared.missed.Missed.{Missed}
use Rattle.wb_keeper.specs.Keeper.{KeeperCall, SetDelay, SetConstants, newest, moment_at, high_reported, high_heard, delay_given, delay_to, session_heard, senders_of, remember, heard_by, last_heard, received_of, missed_of, events_of, holds}
use Rattle.wb_keeper.specs.Hearing.{marks_reported, marks_heard}
use Rattle.wb_keeper.specs.Keeping.{KeeperValue, StandsFor, Keeps, delay_at}

-- ---- calls that tell nothing of others

pub max_none : (n : ℕ) → max 0 n ≡ n
max_none n = omega arith

pub record IsInward (call : KeeperCall) : Type 0 where
  pub delays : (me source : ℕ) → delay_given me source call ≡ None
  pub sessions : (me : ℕ) → session_heard me call ≡ None
  pub marks : (me : ℕ) (page : PageId) (source : ℕ) → high_reported me page source call ≡ 0
  pub merged : (me : ℕ) (page : PageId) → marks_reported me page call ≡ []

module _ (call : KeeperCall) (is : IsInward call) (me : ℕ) (calls : List KeeperCall) where
  pub same_delay : (source : ℕ) → delay_to me (call ∷ calls) source ≡ delay_to me calls source
  same_delay source = ap (λ (o : Option ℕ). unwrap_or (option_or o (newest (delay_given me source) calls)) 100000) (is.delays me source)

  pub same_senders : senders_of me (call ∷ calls) ≡ senders_of me calls
  same_senders = ap (λ o. remember o (senders_of me calls)) (is.sessions me)

  pub same_heard : (source : ℕ) → last_heard me (call ∷ calls) source ≡ last_heard me calls source
  same_heard source =
      ap (λ (senders : List ℕ). cond (list_any (nat_eq source) senders) (option_or (heard_by source (session_heard me call)) (newest (λ c. heard_by source (session_heard me c)) calls)) None) same_senders
      ∙ ap (λ o. cond (list_any (nat_eq source) (senders_of me calls)) (option_or (heard_by source o) (newest (λ c. heard_by source (session_heard me c)) calls)) None) (is.sessions me)

  pub same_marks : (page : PageId) (source : ℕ) → high_heard me (call ∷ calls) page source ≡ high_heard me calls page source
  same_marks page source = ap (λ (n : ℕ). max n (high_heard me calls page source)) (is.marks me page source) ∙ max_none _

  pub same_merged : (page : PageId) → marks_heard me (call ∷ calls) page ≡ marks_heard me calls page
  same_merged page = ap (λ (ms : List MarkValue). joined ms (marks_heard me calls page)) (is.merged me page)

-- such a call changes the timers and the moment alone
pub keeps_inward : (call : KeeperCall) → IsInward call → (old new : KeeperValue) (recovery : RecoveryValue) (now : ℕ) → new ≡ record old { moment = now; recovery = recovery } → ((calls : List KeeperCall) → moment_at (call ∷ calls) ≡ now)
    → ((me : ℕ) (t : Tuning) (calls : List KeeperCall) → StandsFor me t calls old → timers.StandsFor t (events_of me (call ∷ calls)) recovery) → Keeps call old new
keeps_inward call inward old new recovery now is moment stands me t calls s = subst (StandsFor me t (call ∷ calls)) (sym is) (record {
  me_is = s.me_is;
  moment = sym (moment calls);
  recovery = stands me t calls s;
  delays = λ source. s.delays source ∙ sym (same_delay call inward me calls source);
  heard = λ source. s.heard source ∙ sym (same_heard call inward me calls source);
  senders = s.senders ∙ ap length (sym (same_senders call inward me calls));
  marks = λ page source. s.marks page source ∙ sym (same_marks call inward me calls page source);
  merged = λ page. s.merged page ∙ sym (same_merged call inward me calls page);
})

-- ---- a delay is set
pub keeps_delay : (source micros : ℕ) (entry : Option ℕ) (old new : KeeperValue) (delays : List (ℕ × ℕ)) → unwrap_or entry 100000 ≡ micros → new ≡ record old { delays = delays } → ((q : ℕ) → lookup (is_at (nat_cmp q)) delays ≡ cond (is_at (nat_cmp source) q) entry (lookup (is_at (nat_cmp q)) old.delays)) → Keeps (SetDelay source micros) old new
keeps_delay source micros entry old new delays told is r me t calls s = subst (StandsFor me t (SetDelay source micros ∷ calls)) (sym is) (record {
  me_is = s.me_is;
  moment = s.moment;
  recovery = s.recovery;
  delays = λ q. ap (λ (o : Option ℕ). unwrap_or o 100000) (r q ∙ ap (λ (b : Bool). cond b entry (lookup (is_at (nat_cmp q)) old.delays)) (sym (nat_ties source q))) ∙ from q (nat_eq source q);
  heard = s.heard;
  senders = s.senders;
  marks = λ page q. s.marks page q ∙ sym (max_none _);
  merged = s.merged;
}) where
  from : (q : ℕ) (b : Bool) → unwrap_or (cond b entry (lookup (is_at (nat_cmp q)) old.delays)) 100000 ≡ unwrap_or (option_or (cond b (Some micros) None) (newest (delay_given me q) calls)) 100000
  from q true = told
  from q false = s.delays q

-- ---- the constants change

pub keeps_constants : (constants : Tuning) (old new : KeeperValue) (recovery : RecoveryValue) → new ≡ record old { recovery = recovery }
    → ((t : Tuning) (events : List Event) → timers.StandsFor t events old.recovery → timers.StandsFor t (Tune constants ∷ events) recovery) → Keeps (SetConstants constants) old new
keeps_constants constants old new recovery is stands me t calls s = subst (StandsFor me t (SetConstants constants ∷ calls)) (sym is) (record {
  me_is = s.me_is;
  moment = s.moment;
  recovery = stands t (events_of me calls) s.recovery;
  delays = s.delays;
  heard = s.heard;
  senders = s.senders;
  marks = λ page q. s.marks page q ∙ sym (max_none _);
  merged = s.merged;
})

-- ---- names that have come

pub holds_from : (history : List DrawopValue) (name : NameValue) (d : DrawopValue) → Contains history d → d.name ≡ name → holds history name ≡ true
holds_from [] name d c is = absurd (Contains-none d c)
holds_from (x ∷ history) name d c is = ⊎_elim
    (λ (e : x ≡ d). ap (λ (b : Bool). b || holds history name) (same_name-here x.name name (ap (λ (w : DrawopValue). w.name) e ∙ is)))
    (λ (g : Contains history d). or_right (same_name x.name name) (holds history name) (holds_from history name d g is))
    (Contains-cases x d history c)

holds_name : (history : List DrawopValue) (name : NameValue) → holds history name ≡ true → HoldsName history name
holds_name [] name h = absurd (true≢false (sym h))
holds_name (x ∷ history) name h = from (holds_name history name) (same_name x.name name) refl h where
  from : (holds history name ≡ true → HoldsName history name) → (b : Bool) → same_name x.name name ≡ b → (b || holds history name) ≡ true → HoldsName (x ∷ history) name
  from rest true e g = (0, x, omega arith, refl, same_name-is x.name name e)
  from rest false e g = let r = rest g in (suc r.0, r.1, omega arith, r.3, r.4)

pub holds_not : (history : List DrawopValue) (name : NameValue) → ¬ HoldsName history name → holds history name ≡ false
holds_not history name h = from (holds history name) refl where
  from : (b : Bool) → holds history name ≡ b → holds history name ≡ false
  from true e = absurd (h (holds_name history name e))
  from false e = e

pub holds_or_not : (history : List DrawopValue) (name : NameValue) → HoldsName history name ⊎ (HoldsName history name → ⊥)
holds_or_not history name = by (holds history name) refl where
  by : (b : Bool) → holds history name ≡ b → HoldsName history name ⊎ (HoldsName history name → ⊥)
  by true e = inl (holds_name history name e)
  by false e = inr (λ h. true≢false (sym (holds_from history name h.1 (h.0, h.2, h.3) h.4) ∙ e))

pub holds_one_more : (held : List DrawopValue) (d : DrawopValue) (n : NameValue) → holds (held ++ d ∷ []) n ≡ (holds held n || same_name d.name n)
holds_one_more held d n = list_any-append (λ (e : DrawopValue). same_name e.name n) held (d ∷ []) ∙ ap (λ (b : Bool). holds held n || b) (or-false (same_name d.name n))

pub found_by : {X : Type 0} (o : Option X) (P : Type 0) (Q : X → Type 0) (b : Bool) → MatchOption o P Q → (P → b ≡ false) → ((x : X) → Q x → b ≡ true) → is_some o ≡ b
found_by None P Q b m f g = sym (f m)
found_by (Some x) P Q b m f g = sym (g x m)

-- the delays are the same function
pub same_received : (f g : ℕ → ℕ) → ((source : ℕ) → f source ≡ g source) → (names : List NameValue) → received_of f names ≡ received_of g names
same_received f g same [] = refl
same_received f g same (n ∷ names) = ap (λ (d : ℕ). record { name = n; delay = d } ∷ received_of f names) (same n.source) ∙ ap (λ (cs : List Received). record { name = n; delay = g n.source } ∷ cs) (same_received f g same names)

pub same_missed : (f g : ℕ → ℕ) → ((source : ℕ) → f source ≡ g source) → (names : List NameValue) (words : List ℕ) → missed_of f names words ≡ missed_of g names words
same_missed f g same names words = from (zip names words) where
  from : (pairs : List (NameValue × ℕ)) → map (λ (p : NameValue × ℕ). let m : Missed = record { name = p.0; delay = f p.0.source; word = p.1 } in m) pairs ≡ map (λ (p : NameValue × ℕ). let m : Missed = record { name = p.0; delay = g p.0.source; word = p.1 } in m) pairs
  from [] = refl
  from (p ∷ pairs) = ap (λ (d : ℕ). let m : Missed = record { name = p.0; delay = d; word = p.1 } in m ∷ map (λ (p : NameValue × ℕ). let m : Missed = record { name = p.0; delay = f p.0.source; word = p.1 } in m) pairs) (same p.0.source) ∙ ap (λ (ms : List Missed). let m : Missed = record { name = p.0; delay = g p.0.source; word = p.1 } in m ∷ ms) (from pairs)

-- one more name that has come
receipts_two : (now : ℕ) (events : List Event) (cs : List Received) (c : Received) → receipts now events (cs ++ c ∷ []) ≡ Got c.name now c.delay ∷ receipts now events cs
receipts_two now events [] c = refl
receipts_two now events (d ∷ cs) c = receipts_two now (Got d.name now d.delay ∷ events) cs c

received_two : (delays : ℕ → ℕ) (names : List NameValue) (n : NameValue) → received_of delays (names ++ n ∷ []) ≡ received_of delays names ++ (record { name = n; delay = delays n.source }) ∷ []
received_two delays [] n = refl
received_two delays (m ∷ names) n = ap (λ (cs : List Received). record { name = m; delay = delays m.source } ∷ cs) (received_two delays names n)

filter_two : (p : NameValue → Bool) (names : List NameValue) (n : NameValue) → filter p (names ++ n ∷ []) ≡ filter p names ++ cond (p n) (n ∷ []) []
filter_two p [] n = refl
filter_two p (m ∷ names) n = ap (λ (ms : List NameValue). cond (p m) (m ∷ ms) ms) (filter_two p names n) ∙ from (p m) where
  from : (b : Bool) → cond b (m ∷ (filter p names ++ cond (p n) (n ∷ []) [])) (filter p names ++ cond (p n) (n ∷ []) []) ≡ cond b (m ∷ filter p names) (filter p names) ++ cond (p n) (n ∷ []) []
  from true = refl
  from false = refl

take_two : (names : List NameValue) (i : ℕ) (n : NameValue) → i < length names → n ≡ get_or names i n → take (i + 1) names ≡ take i names ++ n ∷ []
take_two names i n lt is = rw (add-one, take-suc names i n lt) (ap (λ (m : NameValue). take i names ++ m ∷ []) (sym is))

pub received_more : (now : ℕ) (events : List Event) (delays : ℕ → ℕ) (p : NameValue → Bool) (names : List NameValue) (i : ℕ) (n : NameValue) → i < length names → n ≡ get_or names i n → p n ≡ true → receipts now events (received_of delays (filter p (take (i + 1) names))) ≡ Got n now (delays n.source) ∷ receipts now events (received_of delays (filter p (take i names)))
received_more now events delays p names i n lt is h =
    ap (λ (ms : List NameValue). receipts now events (received_of delays ms)) (ap (filter p) (take_two names i n lt is) ∙ filter_two p (take i names) n ∙ ap (λ (b : Bool). filter p (take i names) ++ cond b (n ∷ []) []) h)
    ∙ ap (receipts now events) (received_two delays (filter p (take i names)) n)
    ∙ receipts_two now events (received_of delays (filter p (take i names))) (record { name = n; delay = delays n.source })

pub received_same : (p : NameValue → Bool) (names : List NameValue) (i : ℕ) (n : NameValue) → i < length names → n ≡ get_or names i n → p n ≡ false → filter p (take (i + 1) names) ≡ filter p (take i names)
received_same p names i n lt is h = ap (filter p) (take_two names i n lt is) ∙ filter_two p (take i names) n ∙ ap (λ (b : Bool). filter p (take i names) ++ cond b (n ∷ []) []) h ∙ append-nil _

-- one more name, which is held, was taken in
pub received_step : (old now new : KeeperValue) (p : NameValue → Bool) (names : List NameValue) (i : ℕ) (n : NameValue) → i < length names → n ≡ get_or names i n → p n ≡ true
    → now ≡ record old { recovery = now.recovery } → new ≡ record now { recovery = new.recovery }
    → timers.Accepts (Got n now.moment (delay_at now.delays n.source)) now.recovery new.recovery
    → ((t : Tuning) (events : List Event) → timers.StandsFor t events old.recovery → timers.StandsFor t (receipts old.moment events (received_of (delay_at old.delays) (filter p (take i names)))) now.recovery)
    → (t : Tuning) (events : List Event) → timers.StandsFor t events old.recovery → timers.StandsFor t (receipts old.moment events (received_of (delay_at old.delays) (filter p (take (i + 1) names)))) new.recovery
received_step old now new p names i n lt is h rest rest' accepts came t events s =
    subst (λ (after : List Event). timers.StandsFor t after new.recovery) (sym (received_more old.moment events (delay_at old.delays) p names i n lt is h))
    (subst (λ (v : KeeperValue). timers.StandsFor t (Got n v.moment (delay_at v.delays n.source) ∷ receipts old.moment events (received_of (delay_at old.delays) (filter p (take i names)))) new.recovery) rest (accepts t _ (came t events s)))
