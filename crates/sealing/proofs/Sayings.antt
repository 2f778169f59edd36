-- The laws of sealing schemes and of tokens.
use Rattle.std.proofs.Common.{◌≡◌, ℕ, ◌+◌, ◌-◌, ◌<◌, ◌≤◌, Bool, true, false, cond, nat_lt, ◌||◌, List, ◌++◌, length, take, Some, None, Ok, Err, Option, Result, sym, refl, ap, ◌∙◌, arith, length-append}
use Rattle.std.proofs.ByRecursion.{All-take, All-drop, All-append}
use Rattle.std.proofs.lemmas.Bool.{ltb-false}
use Rattle.std.proofs.lemmas.List.{take_at, drop_at, take-append-drop, length-drop}
use Rattle.answers.specs.declared.Cause.{Cause}
use Rattle.answers.specs.declared.Cause.TheVariants.{EmptyToken, Unopened, Undecodable}
use Rattle.answers.specs.declared.Fault.{Fault}
use Rattle.wire.specs.Numbers.{Bytes, little_endian, from_little_endian}
use Rattle.wire.specs.declared.types.TokenPayload.{TokenPayload}
use Rattle.wire.specs.Content.{encode_content, decode_content}
use Rattle.wire.specs.Laws.{Sound}
use Rattle.wire.proofs.Numbers.{little_back, little_bytes}
use Rattle.wire.proofs.Contents.{back, short, bytes, only}
use Rattle.wire.proofs.Faithful.{apart, same_ok, then_ok}
use Rattle.sealing.specs.Sealing.{Image, Opening, IsNonce, IsContent, Undoes}
use Rattle.sealing.specs.Tokens.{nonce_bytes, sealed_with, sealed_of, nonce_of, low_of, sized, decoded, unsealed, says}
use Rattle.sealing.specs.Laws.{AnImageFixesWhatOpens, AWrittenTokenSaysItsContent, OnlyWhatIsSealedIsRead}
use Rattle.sealing.proofs.Tokening.{says_opened, well_sized}

module _ (image : Image) (o o' : Opening) (u : Undoes image o) (u' : Undoes image o') (n b : List ℕ) (m : IsNonce n) (h : Bytes b) where
  agree : (r r' : Option (List ℕ)) → o n b ≡ r → o' n b ≡ r' → r ≡ r'
  agree None None p q = refl
  agree (Some c) r' p q = let k = u.only n b c m h p in sym (u'.opens n c m k.1) ∙ ap (o' n) k.0 ∙ q
  agree None (Some c) p q = let k = u'.only n b c m h q in sym p ∙ ap (o n) (sym k.0) ∙ u.opens n c m k.1

pub fixes : AnImageFixesWhatOpens
fixes image o o' u u' n b m h = agree image o o' u u' n b m h (o n b) (o' n b) refl refl

sixteen : (low high : ℕ) → length (nonce_bytes low high) ≡ 16
unfolding nonce_bytes
sixteen low high = refl

-- the bytes of a nonce are one, and those of a content are one that a scheme takes
nonces : (low high : ℕ) → IsNonce (nonce_bytes low high)
unfolding nonce_bytes
nonces low high = (All-append (λ z. z < 256) (little_endian 8 low) (little_endian 8 high) (little_bytes 8 low) (little_bytes 8 high), sixteen low high)

pub contents : (content : TokenPayload) → Sound content → IsContent (encode_content content)
contents content sound = let s = short content sound in (bytes content sound, omega (arith, s.1))

-- the parts of a token, from its end
module _ (b n : List ℕ) (wide : length n ≡ 16) where
  cut : length b ≡ length (b ++ n) - 16
  cut = let l = length-append b n in omega arith

  nonce_of_lem : nonce_of (b ++ n) ≡ n
  nonce_of_lem = drop_at b n (length (b ++ n) - 16) cut

  sealed_of_lem : sealed_of (b ++ n) ≡ b
  sealed_of_lem = take_at b n (length (b ++ n) - 16) cut

low_of_lem : (b : List ℕ) (low high : ℕ) → low < 18446744073709551616 → low_of (b ++ nonce_bytes low high) ≡ low
unfolding low_of nonce_bytes
low_of_lem b low high h = ap (λ z. from_little_endian (take 8 z)) (nonce_of_lem b (nonce_bytes low high) (sixteen low high)) ∙ little_back 8 low h

pub says_written : (image : Image) (opened : Opening) → ((n c : List ℕ) → IsNonce n → IsContent c → length (image n c) ≡ length c + 16) → Undoes image opened
    → AWrittenTokenSaysItsContent image opened
unfolding sealed_with
says_written image opened longer u low high content h sound =
    let bs : List ℕ = encode_content content in
    let n : List ℕ = nonce_bytes low high in
    let t : List ℕ = image n bs ++ n in
    let few = short content sound in
    let m = nonces low high in
    let k = contents content sound in
    let wide = m.1 in
    let long : length t ≡ length bs + 32 = omega (arith, length-append (image n bs) n, longer n bs m k) in
    let o : opened (nonce_of t) (sealed_of t) ≡ Some bs =
    ap (λ z. opened z (sealed_of t)) (nonce_of_lem (image n bs) n wide) ∙ ap (opened n) (sealed_of_lem (image n bs) n wide) ∙ u.opens n bs m k in
    record {
      said = says_opened opened t (sym (well_sized t (omega arith) (omega (arith, few.1)))) ∙ ap unsealed o ∙ ap decoded (back content sound);
      half = low_of_lem (image n bs) low high h;
      long = long;
    }

decoded_ok : (r : Result TokenPayload Fault) (c : TokenPayload) → decoded r ≡ Ok c → r ≡ Ok c
decoded_ok (Ok x) c h = ap Ok (same_ok x c h)
decoded_ok (Err f) c h = apart (Undecodable f) c h

unsealed_ok : (o : Option (List ℕ)) (c : TokenPayload) → unsealed o ≡ Ok c → (bs : List ℕ) × (o ≡ Some bs) × (decode_content bs ≡ Ok c)
unsealed_ok (Some bs) c h = (bs, refl, decoded_ok (decode_content bs) c h)
unsealed_ok None c h = apart Unopened c h

sized_ok : (t : List ℕ) → sized t ≡ Ok tt → 16 ≤ length t
sized_ok t h = ltb-false (length t) 16 (first (nat_lt (length t) 1) (nat_lt (length t) 16) (nat_lt 81 (length t)) h) where
  first : (a b c : Bool) → ◌≡◌ {A = Result (Unit {0}) Cause} (cond a (Err EmptyToken) (cond (b || c) (Err Unopened) (Ok (tt {0})))) (Ok (tt {0})) → b ≡ false
  first true b c e = apart EmptyToken (tt {0}) e
  first false true c e = apart Unopened (tt {0}) e
  first false false c e = refl

pub only_sealed : (image : Image) (opened : Opening) → Undoes image opened → OnlyWhatIsSealedIsRead image opened
unfolding says sealed_with
only_sealed image opened u t content h e =
    let p = then_ok (sized t) _ content e in
    let w = unsealed_ok (opened (nonce_of t) (sealed_of t)) content p.2 in
    let l : 16 ≤ length t = sized_ok t p.1 in
    let m : IsNonce (nonce_of t) = (All-drop (λ z. z < 256) (length t - 16) t h, omega (arith, length-drop (length t - 16) t)) in
    let i = u.only (nonce_of t) (sealed_of t) w.0 m (All-take (λ z. z < 256) (length t - 16) t h) w.1 in
    let o = only w.0 content i.1.0 w.2 in
    (sym (take-append-drop (length t - 16) t) ∙ ap (λ z. z ++ nonce_of t) (sym i.0 ∙ ap (image (nonce_of t)) o.0), o.1)
