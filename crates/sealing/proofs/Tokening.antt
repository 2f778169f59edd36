-- From the steps of reading and writing a token to what it says.
use Rattle.std.proofs.Common.{◌≡◌, ℕ, ◌+◌, ◌≤◌, List, ◌++◌, length, take, drop, Ok, Err, Option, Result, sym, ap, ◌∙◌, arith, length-append}
use borrow.Rule.Slice.PartMut.{put_mid}
use Rattle.std.proofs.lemmas.List.{take_at}
use Rattle.std.proofs.lemmas.Bool.{le-ltb, or_from, cond-false}
use Rattle.answers.specs.declared.Cause.{Cause}
use Rattle.wire.specs.Numbers.{from_little_endian}
use Rattle.wire.specs.declared.types.TokenPayload.{TokenPayload}
use Rattle.answers.specs.Buffers.{fronted, pasted}
use Rattle.answers.proofs.Buffers.{put_pasted, pasted-pasted, pasted_front}
use Rattle.sealing.specs.Sealing.{Image, Opening, Opens, content_in, opened_in}
use Rattle.wire.proofs.Faithful.{same_ok}
use Rattle.answers.specs.declared.Refusal.{Refusal}
use Rattle.sealing.specs.Tokens.{sized, sealed_of, nonce_of, low_of, unsealed, says, token_read}

pub well_sized : (t : List ℕ) → 16 ≤ length t → length t ≤ 81 → sized t ≡ Ok tt
well_sized t least most =
    cond-false _ _ _ (le-ltb (length t) 1 (omega arith))
    ∙ cond-false _ _ _ (or_from _ _ (le-ltb (length t) 16 least) (le-ltb 81 (length t) most))

module _ (opened : Opening) (t : List ℕ) where
  pub says_stops : (e : Cause) → sized t ≡ Err e → says opened t ≡ Err e
  unfolding says
  says_stops e h = rw h

  pub says_opened : Ok tt ≡ sized t → says opened t ≡ unsealed (opened (nonce_of t) (sealed_of t))
  unfolding says
  says_opened h = let k = sym h in rw k

  -- the parts that a token was cut into, and what they opened to
  pub says_of : {sealed nonce : List ℕ} → (sized t ≡ Ok tt) × ((sealed ≡ sealed_of t) × (nonce ≡ nonce_of t))
      → (o : Option (List ℕ)) → o ≡ opened nonce sealed → says opened t ≡ unsealed o
  says_of {sealed} {nonce} p o h =
      says_opened (sym p.0) ∙ ap unsealed (ap (λ y. opened y (sealed_of t)) (sym p.1.1) ∙ ap (opened nonce) (sym p.1.0) ∙ sym h)

  low_is : {nonce : List ℕ} → nonce ≡ nonce_of t → (low : ℕ) → low ≡ from_little_endian (take 8 nonce) → low ≡ low_of t
  unfolding low_of
  low_is p low h = h ∙ ap (λ y. from_little_endian (take 8 y)) p

  -- what is answered where nothing is said, and where a content is
  pub nothing_read : (e : Cause) → says opened t ≡ Err e → Err e ≡ token_read opened t
  nothing_read e h = rw h

  pub content_read : {nonce : List ℕ} → nonce ≡ nonce_of t → (low : ℕ) → low ≡ from_little_endian (take 8 nonce) → (content : TokenPayload)
      → says opened t ≡ Ok content → Ok (record { payload = content; low = low }) ≡ token_read opened t
  content_read p low h content e = rw (e, low_is p low h)

-- what was opened into working bytes enough
pub opened_enough : {opening : List ℕ → Option (List ℕ)} {sealed working working' : List ℕ} {r : Result (Option ℕ) Refusal} (o : Option ℕ)
    → Opens opening sealed working working' r → 96 ≤ length working → r ≡ Ok o → content_in working' o ≡ opening sealed
opened_enough {working = working} {working' = working'} o h enough e =
    same_ok _ _ (ap (opened_in working') (sym e) ∙ h.answer ∙ cond-false _ _ _ (le-ltb (length working) 96 enough))

-- the steps of writing: the content's bytes into the working bytes, their image into the buffer, and the nonce behind it
module _ (image : Image) (nonce bs working encoded out sealed part : List ℕ) (len end k : ℕ)
    (longer : length (image nonce bs) ≡ length bs + 16) (sixteen : length nonce ≡ 16)
    (first : encoded ≡ fronted bs working) (lens : len ≡ length bs)
    (second : sealed ≡ fronted (image nonce (take len encoded)) out) (ends : end ≡ len + 16)
    (third : part ≡ nonce) (wide : k ≡ 16) (room : end + 16 ≤ length out) where
  image_is : image nonce (take len encoded) ≡ image nonce bs
  image_is = ap (image nonce) (ap (take len) first ∙ take_at bs (drop (length bs) working) len (sym lens))

  pub token_written : (end + 16 ≡ length (image nonce bs ++ nonce)) × (put_mid end k sealed part ≡ fronted (image nonce bs ++ nonce) out)
  token_written =
      let e : sealed ≡ pasted (image nonce bs) 0 out = second ∙ ap (λ z. fronted z out) image_is ∙ sym (pasted_front (image nonce bs) out) in
      let f : end ≡ 0 + length (image nonce bs) = omega arith in (
        omega (arith, length-append (image nonce bs) nonce),
        put_pasted nonce part sealed end k third (omega arith) ∙ ap (λ z. pasted nonce z sealed) f ∙ ap (pasted nonce (0 + length (image nonce bs))) e
            ∙ pasted-pasted (image nonce bs) nonce out 0 (omega arith) ∙ pasted_front (image nonce bs ++ nonce) out,
      )
