-- Every field, and so every content, has exactly one encoding, which decoding undoes.
use Rattle.std.proofs.Common.{◌≡◌, ℕ, suc, ◌+◌, ◌^◌, ◌<◌, ◌≤◌, Bool, true, false, cond, nat_eq, nat_lt, ◌⊎◌, List, [], ◌∷◌, ◌++◌, length, get_or, take, drop, Ok, Err, Result, sym, refl, ap, ◌∙◌, inl, inr, ⊎_elim, arith, length-append}
use Rattle.std.specs.Int.Digits.{number_from_digits}
use Rattle.std.proofs.lemmas.Int.Digits.{number_lt}
use Rattle.std.proofs.ByRecursion.{All-take, All-drop, All-append}
use Rattle.std.proofs.lemmas.List.{take_at, take-append-drop, drop_more, drop_all, append-nil, length-take-le, drop-drop}
use Rattle.std.proofs.lemmas.Bool.{le-ltb, ltb-false, eq-eqb, eqb-true}
use Rattle.answers.specs.declared.Fault.{Fault}
use Rattle.answers.specs.declared.Fault.TheVariants.{Short, TokenType, IpKind, LongConnectionId, LateIssue, ExtraBytes}
use Rattle.wire.specs.declared.types.IpAddr.{IpAddr}
use Rattle.wire.specs.declared.types.IpAddr.TheVariants.{V4, V6}
use Rattle.wire.specs.declared.types.SocketAddr.{SocketAddr}
use Rattle.wire.specs.Numbers.{Bytes, big_endian}
use Rattle.wire.specs.Fields.{Reader, and_then, octets, both}
use Rattle.wire.specs.Content.{encode_ip, decode_ip, encode_port, decode_port, encode_addr, decode_addr, encode_id, decode_id, encode_time, decode_time, ended, encode_content, decode_retry, decode_validation}
use Rattle.wire.specs.declared.types.TokenPayload.TheVariants.{Retry, Validation}
use Rattle.wire.specs.declared.types.TokenPayload.{TokenPayload}
use Rattle.wire.specs.Laws.{SoundIp, SoundAddr, SoundId, DecodingUndoesEncoding, EachContentHasOneEncoding, ContentsAreShort, ContentsAreBytes}
use Rattle.wire.proofs.Numbers.{length_big, big_back, big_only, big_bytes}
use Rattle.wire.proofs.Faithful.{apart, same_ok, then_ok, Only, moved, Faithful, both_faithful}

-- a test that an answer has passed
past : {A : Type 0} (b : Bool) (e : Fault) (r : Result A Fault) (a : A) → cond b (Err e) r ≡ Ok a → (b ≡ false) × (r ≡ Ok a)
past true e r a h = apart e a h
past false e r a h = (refl, h)

one_of : {A : Type 0} (b : Bool) (r s : Result A Fault) (a : A) → cond b r s ≡ Ok a → ((b ≡ true) × (r ≡ Ok a)) ⊎ ((b ≡ false) × (s ≡ Ok a))
one_of true r s a h = inl (refl, h)
one_of false r s a h = inr (refl, h)

-- the first bytes
octets_back : (n : ℕ) (o rest : List ℕ) → length o ≡ n → octets n (o ++ rest) ≡ Ok o
octets_back n o rest l =
    let t : nat_lt (length (o ++ rest)) n ≡ false = le-ltb (length (o ++ rest)) n (simp length-append (omega arith)) in
    rw (t, take_at o rest n l)

octets_only : (n : ℕ) (bs o : List ℕ) → octets n bs ≡ Ok o → (bs ≡ o ++ drop n bs) × (length o ≡ n) × (Bytes bs → Bytes o)
octets_only n bs o h =
    let p = past (nat_lt (length bs) n) Short (Ok (take n bs)) o h in
    let l : n ≤ length bs = ltb-false (length bs) n p.0 in
    let e : take n bs ≡ o = same_ok (take n bs) o p.1 in
    (sym (take-append-drop n bs) ∙ ap (λ z. z ++ drop n bs) e, ap length (sym e) ∙ length-take-le n bs l, λ b. rw e at (All-take (λ z. z < 256) n bs b))

-- one byte, and bytes behind it
tagged : (bs o : List ℕ) (kind n : ℕ) → 1 ≤ length bs → get_or bs 0 0 ≡ kind → octets n (drop 1 bs) ≡ Ok o
    → (bs ≡ (kind ∷ o) ++ drop (1 + n) bs) × (length o ≡ n) × (Bytes bs → Bytes o)
tagged bs o kind n some k h =
    let p = octets_only n (drop 1 bs) o h in
    (drop_more bs 0 0 some ∙ ap (λ z. z ∷ drop 1 bs) k ∙ ap (λ z. kind ∷ z) (p.0 ∙ ap (λ z. o ++ z) (drop-drop n 1 bs)), p.1, λ b. p.2 (All-drop (λ z. z < 256) 1 bs b))

some_bytes : (x : ℕ) (bs : List ℕ) → nat_lt (length (x ∷ bs)) 1 ≡ false
some_bytes x bs = le-ltb (length (x ∷ bs)) 1 (omega arith)

ip_back : (a : IpAddr) (rest : List ℕ) → SoundIp a → decode_ip (encode_ip a ++ rest) ≡ Ok (a, length (encode_ip a))
ip_back (V4 o) rest s = let f = octets_back 4 o rest s.1 in rw (some_bytes 0 (o ++ rest), f, s.1)
ip_back (V6 o) rest s = let f = octets_back 16 o rest s.1 in rw (some_bytes 1 (o ++ rest), f, s.1)

ip_only : (bs : List ℕ) (a : IpAddr) (n : ℕ) → Bytes bs → decode_ip bs ≡ Ok (a, n) → Only SoundIp encode_ip bs a n
ip_only bs a n bytes h =
    let p = past (nat_lt (length bs) 1) Short _ (a, n) h in
    let some : 1 ≤ length bs = ltb-false (length bs) 1 p.0 in
    ⊎_elim
    (λ q. let u = then_ok (octets 4 (drop 1 bs)) _ (a, n) q.1 in
    let t = tagged bs u.0 0 4 some (eqb-true (get_or bs 0 0) 0 q.0) u.1 in
    moved (record { long = omega (arith, t.1); same = t.0; sound = (t.2 bytes, t.1) }) u.2)
    (λ q. ⊎_elim
    (λ r. let u = then_ok (octets 16 (drop 1 bs)) _ (a, n) r.1 in
    let t = tagged bs u.0 1 16 some (eqb-true (get_or bs 0 0) 1 r.0) u.1 in
    moved (record { long = omega (arith, t.1); same = t.0; sound = (t.2 bytes, t.1) }) u.2)
    (λ r. apart (IpKind (get_or bs 0 0)) (a, n) r.1)
    (one_of (nat_eq (get_or bs 0 0) 1) _ _ (a, n) q.1))
    (one_of (nat_eq (get_or bs 0 0) 0) _ _ (a, n) p.1)

ip_faithful : Faithful SoundIp encode_ip decode_ip
ip_faithful = record { back = ip_back; only = ip_only }

-- a number of a fixed width
wide : (width bs-number : ℕ) (bs o : List ℕ) → Bytes bs → octets width bs ≡ Ok o → number_from_digits 256 o ≡ bs-number
    → (bs ≡ big_endian width bs-number ++ drop width bs) × (bs-number < 256 ^ width)
wide width n bs o bytes h e =
    let p = octets_only width bs o h in
    let b : Bytes o = p.2 bytes in
    let same : big_endian width n ≡ o = ap (big_endian width) (sym e) ∙ big_only width o p.1 b in
    let small : number_from_digits 256 o < 256 ^ length o = number_lt 256 o b in
    (p.0 ∙ ap (λ z. z ++ drop width bs) (sym same), rw (e, p.1) at small)

abbrev Port : ℕ → Type 0
Port n = n < 65536

port_back : (n : ℕ) (rest : List ℕ) → Port n → decode_port (encode_port n ++ rest) ≡ Ok (n, length (encode_port n))
port_back n rest s =
    let f = octets_back 2 (encode_port n) rest (length_big 2 n) in
    let v = big_back 2 n s in
    rw (f, v)

port_only : (bs : List ℕ) (a : ℕ) (n : ℕ) → Bytes bs → decode_port bs ≡ Ok (a, n) → Only Port encode_port bs a n
port_only bs a n bytes h =
    let u = then_ok (octets 2 bs) _ (a, n) h in
    let w = wide 2 (number_from_digits 256 u.0) bs u.0 bytes u.1 refl in
    moved (record { long = refl; same = w.0; sound = w.1 }) u.2

port_faithful : Faithful Port encode_port decode_port
port_faithful = record { back = port_back; only = port_only }

abbrev Seconds : ℕ → Type 0
Seconds n = n < 4294967296

time_back : (n : ℕ) (rest : List ℕ) → Seconds n → decode_time (encode_time n ++ rest) ≡ Ok (n, length (encode_time n))
time_back n rest s =
    let f = octets_back 8 (encode_time n) rest (length_big 8 n) in
    let v = big_back 8 n (omega arith) in
    let l = le-ltb 4294967295 n (omega arith) in
    rw (f, v, l)

time_only : (bs : List ℕ) (a : ℕ) (n : ℕ) → Bytes bs → decode_time bs ≡ Ok (a, n) → Only Seconds encode_time bs a n
time_only bs a n bytes h =
    let u = then_ok (octets 8 bs) _ (a, n) h in
    let p = past (nat_lt 4294967295 (number_from_digits 256 u.0)) LateIssue _ (a, n) u.2 in
    let w = wide 8 (number_from_digits 256 u.0) bs u.0 bytes u.1 refl in
    moved (record { long = refl; same = w.0; sound = omega (arith, ltb-false 4294967295 (number_from_digits 256 u.0) p.0) }) p.1

time_faithful : Faithful Seconds encode_time decode_time
time_faithful = record { back = time_back; only = time_only }

id_back : (id rest : List ℕ) → SoundId id → decode_id (encode_id id ++ rest) ≡ Ok (id, length (encode_id id))
id_back id rest s =
    let l = le-ltb 20 (length id) s.1 in
    let f = octets_back (length id) id rest refl in
    let one : 1 + length id ≡ suc (length id) = omega arith in
    rw (some_bytes (length id) (id ++ rest), l, f, one)

id_only : (bs id : List ℕ) (n : ℕ) → Bytes bs → decode_id bs ≡ Ok (id, n) → Only SoundId encode_id bs id n
id_only bs id n bytes h =
    let k : ℕ = get_or bs 0 0 in
    let p = past (nat_lt (length bs) 1) Short _ (id, n) h in
    let q = past (nat_lt 20 k) (LongConnectionId k) _ (id, n) p.1 in
    let u = then_ok (octets k (drop 1 bs)) _ (id, n) q.1 in
    let t = tagged bs u.0 k k (ltb-false (length bs) 1 p.0) refl u.1 in
    moved (record {
      long = omega (arith, t.1);
      same = t.0 ∙ ap (λ z. (z ∷ u.0) ++ drop (1 + k) bs) (sym t.1);
      sound = (t.2 bytes, omega (arith, ltb-false 20 k q.0, t.1));
    }) u.2

id_faithful : Faithful SoundId encode_id decode_id
id_faithful = record { back = id_back; only = id_only }

addr_back : (a : SocketAddr) (rest : List ℕ) → SoundAddr a → decode_addr (encode_addr a ++ rest) ≡ Ok (a, length (encode_addr a))
unfolding decode_addr
addr_back a rest s = let f = (both_faithful ip_faithful port_faithful).back (a.ip, a.port) rest s in rw f

addr_only : (bs : List ℕ) (a : SocketAddr) (n : ℕ) → Bytes bs → decode_addr bs ≡ Ok (a, n) → Only SoundAddr encode_addr bs a n
unfolding decode_addr
addr_only bs a n bytes h =
    let u = then_ok (both decode_ip decode_port bs) _ (a, n) h in
    let o = (both_faithful ip_faithful port_faithful).only bs u.0.0 u.0.1 bytes u.1 in
    moved (record { long = o.long; same = o.same; sound = o.sound }) u.2

addr_faithful : Faithful SoundAddr encode_addr decode_addr
addr_faithful = record { back = addr_back; only = addr_only }

retry_faithful : Faithful (λ q. SoundAddr q.0 × (SoundId q.1.0 × Seconds q.1.1)) (λ q. encode_addr q.0 ++ (encode_id q.1.0 ++ encode_time q.1.1)) (both decode_addr (both decode_id decode_time))
retry_faithful = both_faithful addr_faithful (both_faithful id_faithful time_faithful)

validation_faithful : Faithful (λ q. SoundIp q.0 × Seconds q.1) (λ q. encode_ip q.0 ++ encode_time q.1) (both decode_ip decode_time)
validation_faithful = both_faithful ip_faithful time_faithful

-- a whole content: fields, and nothing behind them
pub back : DecodingUndoesEncoding
unfolding encode_content decode_retry decode_validation
back (Retry address id seconds) s =
    let fields : List ℕ = encode_addr address ++ (encode_id id ++ encode_time seconds) in
    let f = rw (append-nil fields) at (retry_faithful.back (address, (id, seconds)) [] (s.0, (s.1, s.2))) in
    let e = eq-eqb (length fields) (length fields) refl in
    rw (some_bytes 0 fields, f, e)
back (Validation ip seconds) s =
    let fields : List ℕ = encode_ip ip ++ encode_time seconds in
    let f = rw (append-nil fields) at (validation_faithful.back (ip, seconds) [] s) in
    let e = eq-eqb (length fields) (length fields) refl in
    rw (some_bytes 1 fields, f, e)

-- bytes that end with their fields are these fields
whole : {A : Type 0} {W : A → Type 0} {E : A → List ℕ} {D : Reader A} → Faithful W E D → (bs : List ℕ) (c : TokenPayload) (f : A → TokenPayload)
    → Bytes bs → and_then (D bs) (λ p. ended bs (f p.0, p.1)) ≡ Ok c → (a : A) × (bs ≡ E a) × W a × (f a ≡ c)
whole {A} {W} {E} {D} faithful bs c f bytes h =
    let u = then_ok (D bs) _ c h in
    let a = u.0.0 in
    let n = u.0.1 in
    let o = faithful.only bs a n bytes u.1 in
    ⊎_elim
    (λ q. let l : length bs ≡ n = eqb-true (length bs) n q.0 in
    (a, o.same ∙ ap (λ z. E a ++ z) (drop_all n bs (omega arith)) ∙ append-nil (E a), o.sound, same_ok (f a) c q.1))
    (λ q. apart ExtraBytes c q.1)
    (one_of (nat_eq (length bs) n) (Ok (f a)) (Err ExtraBytes) c u.2)

first_byte : (bs fields : List ℕ) (kind : ℕ) → 1 ≤ length bs → get_or bs 0 0 ≡ kind → drop 1 bs ≡ fields → bs ≡ kind ∷ fields
first_byte bs fields kind some k e = drop_more bs 0 0 some ∙ ap (λ z. z ∷ drop 1 bs) k ∙ ap (λ z. kind ∷ z) e

pub only : EachContentHasOneEncoding
unfolding encode_content decode_retry decode_validation
only bs c bytes h =
    let p = past (nat_lt (length bs) 1) Short _ c h in
    let some : 1 ≤ length bs = ltb-false (length bs) 1 p.0 in
    let rest : Bytes (drop 1 bs) = All-drop (λ z. z < 256) 1 bs bytes in
    ⊎_elim
    (λ q. let w = whole retry_faithful (drop 1 bs) c (λ a. Retry a.0 a.1.0 a.1.1) rest q.1 in
    rw (← w.3) (first_byte bs _ 0 some (eqb-true (get_or bs 0 0) 0 q.0) w.1, (w.2.0, w.2.1.0, w.2.1.1)))
    (λ q. ⊎_elim
    (λ r. let w = whole validation_faithful (drop 1 bs) c (λ a. Validation a.0 a.1) rest r.1 in
    rw (← w.3) (first_byte bs _ 1 some (eqb-true (get_or bs 0 0) 1 r.0) w.1, w.2))
    (λ r. apart (TokenType (get_or bs 0 0)) c r.1)
    (one_of (nat_eq (get_or bs 0 0) 1) _ _ c q.1))
    (one_of (nat_eq (get_or bs 0 0) 0) _ _ c p.1)

ip_room : (a : IpAddr) → SoundIp a → (5 ≤ length (encode_ip a)) × (length (encode_ip a) ≤ 17)
ip_room (V4 o) s = (omega arith, omega arith)
ip_room (V6 o) s = (omega arith, omega arith)

pub short : ContentsAreShort
unfolding encode_content
short (Retry address id seconds) s =
    let b = ip_room address.ip s.0.0 in
    let p : length (encode_port address.port) ≡ 2 = refl in
    let e = length-append (encode_ip address.ip) (encode_port address.port) in
    let f = length-append (encode_addr address) (encode_id id ++ encode_time seconds) in
    let g = length-append (encode_id id) (encode_time seconds) in
    (omega (arith, b.0, s.1.1), omega (arith, b.1, s.1.1))
short (Validation ip seconds) s =
    let b = ip_room ip s.0 in
    let e = length-append (encode_ip ip) (encode_time seconds) in
    (omega (arith, b.0), omega (arith, b.1))

-- the bytes of a content are bytes
joined : (xs ys : List ℕ) → Bytes xs → Bytes ys → Bytes (xs ++ ys)
joined xs ys p q = All-append (λ z. z < 256) xs ys p q

ip_bytes : (a : IpAddr) → SoundIp a → Bytes (encode_ip a)
ip_bytes (V4 o) s = (omega arith, s.0)
ip_bytes (V6 o) s = (omega arith, s.0)

pub bytes : ContentsAreBytes
unfolding encode_content
bytes (Retry address id seconds) s = (
  omega arith,
  joined (encode_addr address) (encode_id id ++ encode_time seconds)
      (joined (encode_ip address.ip) (encode_port address.port) (ip_bytes address.ip s.0.0) (big_bytes 2 address.port))
      (joined (encode_id id) (encode_time seconds) (omega (arith, s.1.1), s.1.0) (big_bytes 8 seconds)),
)
bytes (Validation ip seconds) s = (omega arith, joined (encode_ip ip) (encode_time seconds) (ip_bytes ip s.0) (big_bytes 8 seconds))
