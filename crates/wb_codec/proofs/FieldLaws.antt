-- A field that is read is the field that was written, and what was written is read again.
use Rattle.std.proofs.lemmas.Grind.{common_steps}
use Rattle.std.proofs.Common.{◌≡◌, ℕ, ◌^◌, ◌<◌, ◌≤◌, Bool, true, false, Option, Some, None, List, [], ◌∷◌, ◌++◌, length, take, Result, Ok, Err, refl, sym, ap, subst, ◌∙◌, append_assoc, arith}
use Rattle.std.specs.Prelude.{◌≢◌, nat_le}
use Rattle.std.specs.Int.{Width, w16, w32, w64, byte_len, from_be_bytes, to_be_bytes}
use Rattle.std.proofs.lemmas.Bool.{leb-true, le-leb, eqb-true}
use Rattle.std.proofs.lemmas.List.{take_at, drop_at, take-append-drop, length-append, length-take, append-nil, nil_from_length}
use Rattle.std.proofs.lemmas.Nat.{be_bytes_8, from_be_bytes-to_be_bytes_8}
use Rattle.wb_names.specs.Values.{NameValue}
use Rattle.wb_names.specs.declared.name.PageId.{PageId}
use Rattle.wb_names.specs.declared.fault.FieldFault.{FieldFault}
use Rattle.wb_codec.specs.declared.fault.ReadFault.{ReadFault}
use Rattle.wb_codec.specs.declared.fault.ReadFault.TheVariants.{Memory}
use Rattle.wb_codec.specs.Ranges.{IsPage, IsName}
use Rattle.wb_codec.specs.Spelling.{page_bytes, name_bytes}
use Rattle.wb_codec.specs.Reading.{◌>>=◌, require, number_at, byte_at, page_at, name_at, end_of, in_range}
use Rattle.wb_codec.proofs.Bytes.{IsBytes, IsBytes-drop, IsBytes-take, IsBytes-rest}

-- ---- steps and checks

abbrev pub is_memory : ReadFault → Bool
is_memory Memory = true
is_memory fault = false

abbrev Holds : {A : Type 0} → (A → Type 0) → Result A ReadFault → Type 0
Holds P (Ok x) = P x
Holds P (Err fault) = is_memory fault ≡ false

-- what was read has P, and no allocation fails
pub record Reads {A : Type 0} (P : A → Type 0) (r : Result A ReadFault) : Type 0 where
  pub it : Holds P r

pub found : {A : Type 0} {P : A → Type 0} {r : Result A ReadFault} (x : A) → Reads P r → r ≡ Ok x → P x
found {P = P} x h e = (subst (Reads P) e h).it

pub never_memory : {A : Type 0} {P : A → Type 0} {r : Result A ReadFault} → Reads P r → r ≢ Err Memory
never_memory {P = P} h e = let f : true ≡ false = (subst (Reads P) e h).it in cc

pub gives : {A : Type 0} {P : A → Type 0} (x : A) → P x → Reads P (Ok x)
gives x h = record { it = h }

pub weaker : {A : Type 0} {P Q : A → Type 0} {r : Result A ReadFault} → Reads P r → ((x : A) → P x → Q x) → Reads Q r
weaker {r = Ok x} h k = record { it = k x h.it }
weaker {r = Err fault} h k = record { it = h.it }

pub step : {A B : Type 0} {P : A → Type 0} {Q : B → Type 0} {r : Result A ReadFault} (f : A → Result B ReadFault) → Reads P r → ((x : A) → P x → Reads Q (f x)) → Reads Q (r >>= f)
step {r = Ok x} f h k = k x h.it
step {r = Err fault} f h k = record { it = h.it }

-- a check, and what follows it
pub checked : {A B : Type 0} {Q : B → Type 0} (b : Bool) (fault : ReadFault) (x : A) (f : A → Result B ReadFault) → is_memory fault ≡ false → (b ≡ true → Reads Q (f x)) → Reads Q (require b fault x >>= f)
checked true fault x f m h = h refl
checked false fault x f m h = record { it = m }

pub ranged : {A B : Type 0} {Q : B → Type 0} (o : Option FieldFault) (x : A) (f : A → Result B ReadFault) → (o ≡ None → Reads Q (f x)) → Reads Q (in_range o x >>= f)
ranged None x f h = h refl
ranged (Some fault) x f h = record { it = refl }

pub ended : {A B : Type 0} {Q : B → Type 0} (rest : List ℕ) (x : A) (f : A → Result B ReadFault) → (rest ≡ [] → Reads Q (f x)) → Reads Q (end_of rest x >>= f)
ended rest x f h = checked _ _ x f refl (λ e. h (nil_from_length rest (eqb-true (length rest) 0 e)))

-- a check that is the last
pub checks : {A : Type 0} {P : A → Type 0} (b : Bool) (fault : ReadFault) (x : A) → is_memory fault ≡ false → (b ≡ true → P x) → Reads P (require b fault x)
checks true fault x m h = record { it = h refl }
checks false fault x m h = record { it = m }

pub ranges : {A : Type 0} {P : A → Type 0} (o : Option FieldFault) (x : A) → (o ≡ None → P x) → Reads P (in_range o x)
ranges None x h = record { it = h refl }
ranges (Some fault) x h = record { it = refl }

pub ends : {A : Type 0} {P : A → Type 0} (rest : List ℕ) (x : A) → (rest ≡ [] → P x) → Reads P (end_of rest x)
ends rest x h = checks _ _ x refl (λ e. h (nil_from_length rest (eqb-true (length rest) 0 e)))

-- what a reader took from the front
pub record Takes (bytes text rest : List ℕ) : Type 0 where
  pub parts : bytes ≡ text ++ rest
  pub rest_fits : IsBytes rest

pub Takes-then : (a x b y c : List ℕ) → Takes a x b → Takes b y c → Takes a (x ++ y) c
Takes-then a x b y c p q = record { parts = p.parts ∙ ap (λ (t : List ℕ). x ++ t) q.parts ∙ sym (append_assoc x y c); rest_fits = q.rest_fits }

-- all of the bytes
pub Takes-all : (bytes text rest : List ℕ) → Takes bytes text rest → rest ≡ [] → bytes ≡ text
Takes-all bytes text rest t e = t.parts ∙ ap (λ (r : List ℕ). text ++ r) e ∙ append-nil text

-- ---- numbers

pub record IsWide (w : Width) (limit : ℕ) : Type 0 where
  pub len : (n : ℕ) → length (to_be_bytes w n) ≡ byte_len w
  pub back : (bytes : List ℕ) → length bytes ≡ byte_len w → IsBytes bytes → to_be_bytes w (from_be_bytes w bytes) ≡ bytes
  pub again : (n : ℕ) → n < limit → from_be_bytes w (to_be_bytes w n) ≡ n
  pub below : (bytes : List ℕ) → IsBytes bytes → from_be_bytes w bytes < limit

pub wide16 : IsWide w16 (2 ^ 16)
wide16 = grind (arith, common_steps)

pub wide32 : IsWide w32 (2 ^ 32)
wide32 = grind (arith, common_steps)

pub wide64 : IsWide w64 (2 ^ 64)
wide64 = record {
  len = λ n. refl;
  back = λ bytes len fits. be_bytes_8 bytes _ len fits refl;
  again = λ n lt. from_be_bytes-to_be_bytes_8 n lt;
  below = λ bytes fits. omega (arith, fits 0, fits 1, fits 2, fits 3, fits 4, fits 5, fits 6, fits 7);
}

-- a number of this width was taken
abbrev pub Numbered : Width → ℕ → List ℕ → ℕ × List ℕ → Type 0
Numbered w limit bytes x = Takes bytes (to_be_bytes w x.0) x.1 × (x.0 < limit)

pub number_reads : {w : Width} {limit : ℕ} (wide : IsWide w limit) (bytes : List ℕ) → IsBytes bytes → Reads (Numbered w limit bytes) (number_at w bytes)
number_reads {w} wide bytes fits = checks _ _ _ refl (λ (t : nat_le (byte_len w) (length bytes) ≡ true).
    let long : byte_len w ≤ length bytes = leb-true _ _ t in
    let front : List ℕ = take (byte_len w) bytes in
    let back : to_be_bytes w (from_be_bytes w front) ≡ front = wide.back front (omega (arith, length-take (byte_len w) bytes)) (IsBytes-take (byte_len w) bytes fits) in
    (record { parts = rw back (sym (take-append-drop (byte_len w) bytes)); rest_fits = IsBytes-drop (byte_len w) bytes fits }, wide.below front (IsBytes-take (byte_len w) bytes fits)))

pub number_again : {w : Width} {limit : ℕ} (wide : IsWide w limit) (n : ℕ) (rest : List ℕ) → n < limit → number_at w (to_be_bytes w n ++ rest) ≡ Ok (n, rest)
number_again {w} wide n rest lt =
    let len = wide.len n in
    let long : nat_le (byte_len w) (length (to_be_bytes w n ++ rest)) ≡ true = le-leb _ _ (omega (arith, length-append (to_be_bytes w n) rest)) in
    rw (long, take_at (to_be_bytes w n) rest (byte_len w) len, drop_at (to_be_bytes w n) rest (byte_len w) len, wide.again n lt) refl

pub reads8 : (bytes : List ℕ) → IsBytes bytes → Reads (λ x. Takes bytes (x.0 ∷ []) x.1 × (x.0 < 256)) (byte_at bytes)
reads8 [] fits = record { it = refl }
reads8 (b ∷ bytes) fits = gives (b, bytes) (record { parts = refl; rest_fits = IsBytes-rest b bytes fits }, fits 0)

-- ---- pages and names

pub page_reads : (bytes : List ℕ) → IsBytes bytes → Reads (λ x. Takes bytes (page_bytes x.0) x.1 × IsPage x.0) (page_at bytes)
unfolding page_at
page_reads bytes fits = step _ (number_reads wide32 bytes fits) (λ a ta. step _ (number_reads wide32 a.1 ta.0.rest_fits) (λ b tb. gives _ (Takes-then _ _ _ _ _ ta.0 tb.0, record { creator = ta.1; number = tb.1 })))

pub page_again : (p : PageId) (rest : List ℕ) → IsPage p → page_at (page_bytes p ++ rest) ≡ Ok (p, rest)
unfolding page_at
page_again p rest fits = ap page_at (append_assoc (to_be_bytes w32 p.creator) (to_be_bytes w32 p.number) rest) ∙ rw (number_again wide32 p.creator (to_be_bytes w32 p.number ++ rest) fits.creator, number_again wide32 p.number rest fits.number) refl

-- the fields of a name, whose number may be 0
pub record HasWidth (n : NameValue) : Type 0 where
  pub source : n.source < 2 ^ 32
  pub page : IsPage n.page
  pub seq : n.seq < 2 ^ 32

pub name_reads : (bytes : List ℕ) → IsBytes bytes → Reads (λ x. Takes bytes (name_bytes x.0) x.1 × HasWidth x.0) (name_at bytes)
unfolding name_at
name_reads bytes fits = step _ (number_reads wide32 bytes fits) (λ s ts. step _ (page_reads s.1 ts.0.rest_fits) (λ p tp. step _ (number_reads wide32 p.1 tp.0.rest_fits) (λ q tq.
    gives _ (Takes-then _ _ _ _ _ (Takes-then _ _ _ _ _ ts.0 tp.0) tq.0, record { source = ts.1; page = tp.1; seq = tq.1 }))))

pub name_again : (n : NameValue) (rest : List ℕ) → HasWidth n → name_at (name_bytes n ++ rest) ≡ Ok (n, rest)
unfolding name_at
name_again n rest fits =
    let s = to_be_bytes w32 n.source in
    let p = page_bytes n.page in
    let q = to_be_bytes w32 n.seq in
    let regrouped : name_bytes n ++ rest ≡ s ++ (p ++ (q ++ rest)) = append_assoc (s ++ p) q rest ∙ append_assoc s p (q ++ rest) in
    ap name_at regrouped ∙ rw (number_again wide32 n.source (p ++ (q ++ rest)) fits.source, page_again n.page (q ++ rest) fits.page, number_again wide32 n.seq rest fits.seq) refl

pub has_width : (n : NameValue) → IsName n → HasWidth n
has_width n h = record { source = h.source; page = h.page; seq = h.seq }
