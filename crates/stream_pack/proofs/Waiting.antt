-- Words put into bytes one by one, the bits that do not fill a byte yet waiting.
-- In order: waits-none; length-waits; waits-more, waits-full, one word; waits-word, waits-room; waits-whole,
-- waits-filled, the end.
-- Assumes nothing.
use Rattle.std.proofs.Common.{◌≡◌, ◌∷◌, ◌++◌, ◌+◌, ◌*◌, ◌-◌, ◌/◌, ◌%◌, ◌^◌, ◌≤◌, ◌<◌}
use Rattle.laws.proofs.All.{refl, sym, ap, ap₂, ◌∙◌, List, [], append_assoc, append-nil, ℕ, suc}
use Rattle.laws.proofs.All.{add-zero, add-one, add-mul, mod-lt, arith, length}
use Rattle.laws.proofs.All.{mul-le-mul_right, take, drop, set, length-append, length-set, length-take-le, take-suc-set}
use Rattle.laws.proofs.All.{set_split, drop-set-lt, drop-drop, take-append-drop, append_snoc, pow_pos, shl_exact}
use Rattle.laws.proofs.All.{below-append, below-take, Below}
use Rattle.bits.specs.Fields.{bits, uniform, bits_of}
use Rattle.bits.proofs.Fields.{length-bits}
use Rattle.bits.proofs.Places.{bits-split, bits-join}
use Rattle.bits.proofs.Bytes.{bits-rest}
use Rattle.bits.proofs.Puts.{uniform-more, length-uniform, bits_of-append, length-bits_of}
use Rattle.stream_pack.specs.declared.writing.Waiting.{Waiting}
use Rattle.stream_pack.specs.Streams.{stream_size, packed}
use Rattle.stream_pack.specs.Waiting.{Waits}
use Rattle.stream_pack.proofs.Sizes.{stream-holds, packed-is}

-- before the first word
pub waits-none : (p : Waiting) (lent : List ℕ) → p.at ≡ 0 → p.count ≡ 0 → Waits [] p lent lent
waits-none p lent e f = record { inside = rw e (omega arith); long = refl; spelled = rw (e, f); behind = refl }

module _ (B lent out : List ℕ) (p : Waiting) (w : Waits B p lent out) where
  -- as many bits as stand in bytes and wait
  pub length-waits : length B ≡ p.at * 8 + p.count
  length-waits =
      ap length (sym w.spelled) ∙ length-append (bits_of (take p.at out)) (bits p.count p.held)
      ∙ ap₂ ◌+◌ (length-bits_of (take p.at out) ∙ ap (λ n. n * 8) (length-take-le p.at out w.inside))
      (length-bits p.count p.held)

  -- the bytes after the next one
  past : drop (p.at + 1) out ≡ drop (p.at + 1) lent
  past = sym (drop-drop 1 p.at out) ∙ ap (drop 1) w.behind ∙ drop-drop 1 p.at lent

  module _ (q v : ℕ) (h : v < 2 ^ q) where
    joined : bits_of (take p.at out) ++ bits (p.count + q) (p.held * 2 ^ q + v) ≡ B ++ bits q v
    joined =
        ap (λ l. bits_of (take p.at out) ++ l) (sym (bits-join p.count q p.held v h))
        ∙ sym (append_assoc (bits_of (take p.at out)) (bits p.count p.held) (bits q v))
        ∙ ap (λ l. l ++ bits q v) w.spelled

    -- a word that fills no byte
    pub waits-more : (p' : Waiting) → p'.at ≡ p.at → p'.count ≡ p.count + q → p'.held ≡ p.held * 2 ^ q + v
        → Waits (B ++ bits q v) p' lent out
    waits-more p' a e f = record {
      inside = rw a w.inside;
      long = w.long;
      spelled = rw (a, e, f) joined;
      behind = rw a w.behind;
    }

    -- a word that fills the next byte, with j bits left to wait
    pub waits-full : (p' : Waiting) (j both x : ℕ) → p.count + q ≡ 8 + j → both ≡ p.held * 2 ^ q + v
        → x ≡ both / 2 ^ j % 2 ^ 8 → p'.at ≡ p.at + 1 → p'.count ≡ j → p'.held ≡ both % 2 ^ j → p.at < length out
        → Waits (B ++ bits q v) p' lent (set out p.at x)
    waits-full p' j both x e f g a b k i = record {
      inside = rw (a, length-set out p.at x) (omega arith);
      long = length-set out p.at x ∙ w.long;
      spelled = rw (a, b) (ap₂ (λ s t. bits_of s ++ t) front (ap (bits j) k ∙ bits-rest j both)
          ∙ ap (λ s. s ++ bits j both) (bits_of-append (take p.at out) (x ∷ []) ∙ ap (λ s. stood ++ s) byte)
          ∙ append_assoc stood (bits 8 (both / 2 ^ j)) (bits j both)
          ∙ ap (λ s. stood ++ s) (sym (bits-split 8 j both) ∙ ap₂ bits (sym e) f) ∙ joined);
      behind = rw a (drop-set-lt (p.at + 1) out p.at x (omega arith) ∙ past);
    }
      where
        stood : List ℕ
        stood = bits_of (take p.at out)

        front : take (p.at + 1) (set out p.at x) ≡ take p.at out ++ x ∷ []
        front = rw add-one (take-suc-set out p.at x i)

        byte : bits_of (x ∷ []) ≡ bits 8 (both / 2 ^ j)
        byte = append-nil (bits 8 x) ∙ ap (bits 8) g ∙ bits-rest 8 (both / 2 ^ j)

-- ---- words, all in fields of q bits
module _ (q : ℕ) (ws lent out : List ℕ) (p : Waiting) where
  -- one more
  pub waits-word : (v : ℕ) (ws' : List ℕ) → ws' ≡ ws ++ v ∷ [] → Waits (uniform q ws ++ bits q v) p lent out
      → Waits (uniform q ws') p lent out
  waits-word v ws' e w = rw (e, uniform-more q ws v) w

  -- k more find room where there is room for as many
  pub waits-room : (k n : ℕ) → Waits (uniform q ws) p lent out → length ws + k ≤ n → stream_size q n ≤ length lent
      → p.at * 8 + p.count + k * q ≤ 8 * length out
  waits-room k n w h l =
      omega (
        arith,
        length-waits (uniform q ws) lent out p w,
        length-uniform q ws,
        w.long,
        stream-holds q n,
        mul-le-mul_right {m = length ws + k} {n = n} q h,
        add-mul (length ws) k q,
      )

-- ---- the end: fewer than eight bits 0 fill the last byte
module _ (q : ℕ) (ws lent out : List ℕ) (p : Waiting) (w : Waits (uniform q ws) p lent out) (b : Below 256 out) where
  -- bytes that end with the stream
  ended : (xs new : List ℕ) (f : ℕ) → f < 8 → Below 256 xs → bits_of xs ≡ uniform q ws ++ bits f 0
      → new ≡ xs ++ drop (length xs) lent → new ≡ packed q ws ++ drop (stream_size q (length ws)) lent
  ended xs new f h d e g =
      let (s, t) = packed-is q ws xs f h d e in g ∙ ap₂ (λ x n. x ++ drop n lent) (sym s) (sym t)

  long-front : length (take p.at out) ≡ p.at
  long-front = length-take-le p.at out w.inside

  -- no bit waits
  pub waits-whole : p.count ≡ 0 → out ≡ packed q ws ++ drop (stream_size q (length ws)) lent
  waits-whole e =
      ended (take p.at out) out 0 (omega arith) (below-take 256 p.at out b)
      (sym (append-nil (bits_of (take p.at out))) ∙ ap (λ n. bits_of (take p.at out) ++ bits n p.held) (sym e)
      ∙ w.spelled ∙ sym (append-nil (uniform q ws)))
      (sym (take-append-drop p.at out)
      ∙ ap (λ l. take p.at out ++ l) (w.behind ∙ ap (λ n. drop n lent) (sym long-front)))

  -- bits wait: bits 0 after them make the last byte
  pub waits-filled : (x : ℕ) → x ≡ p.held * 2 ^ (8 - p.count) % 2 ^ 64 % 2 ^ 8 → 0 < p.count → p.at < length out
      → set out p.at x ≡ packed q ws ++ drop (stream_size q (length ws)) lent
  waits-filled x e h i =
      ended (take p.at out ++ x ∷ []) (set out p.at x) j (omega arith)
      (below-append 256 (take p.at out) (x ∷ []) (below-take 256 p.at out b) (small, tt))
      (bits_of-append (take p.at out) (x ∷ []) ∙ ap (λ l. bits_of (take p.at out) ++ l) byte
      ∙ sym (append_assoc (bits_of (take p.at out)) (bits p.count p.held) (bits j 0))
      ∙ ap (λ l. l ++ bits j 0) w.spelled)
      (set_split out p.at x i ∙ sym (append_snoc (take p.at out) x (drop (suc p.at) out))
      ∙ ap (λ l. (take p.at out ++ x ∷ []) ++ l) tail)
    where
      j : ℕ
      j = 8 - p.count

      long : p.count + j ≡ 8
      long = omega (arith, p.few)

      shifted : x ≡ p.held * 2 ^ j
      shifted =
          e ∙ ap (λ n. n % 2 ^ 8) (shl_exact p.count j 64 p.small (omega arith))
          ∙ shl_exact p.count j 8 p.small (omega arith)

      small : x < 256
      small = rw e (mod-lt (p.held * 2 ^ j % 2 ^ 64) (pow_pos 8))

      byte : bits_of (x ∷ []) ≡ bits p.count p.held ++ bits j 0
      byte =
          append-nil (bits 8 x) ∙ ap₂ bits (sym long) (shifted ∙ sym (add-zero (p.held * 2 ^ j)))
          ∙ sym (bits-join p.count j p.held 0 (pow_pos j))

      tail : drop (suc p.at) out ≡ drop (length (take p.at out ++ x ∷ [])) lent
      tail =
          ap (λ n. drop n out) (sym (add-one p.at)) ∙ past (uniform q ws) lent out p w
          ∙ ap (λ n. drop n lent)
          (sym (length-append (take p.at out) (x ∷ []) ∙ ap (λ n. n + 1) long-front))
