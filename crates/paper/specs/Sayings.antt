-- Small calls with the paper's answers: one line for each sentence about answers, lent bytes and calls from C that no law fixes.
use Rattle.std.specs.Prelude.{ℕ, ◌*◌, Bool, true, false, List, [], ◌∷◌, ◌++◌, ◌≡◌, replicate, pos}
use Rattle.paper.specs.Limits.{register_bytes, work_bytes, is_limit}
use Rattle.paper.specs.Bytes.{stretch}
use Rattle.paper.specs.Tree.{integer, symbol, sum, power, nil, cons}
use Rattle.paper.specs.Record.{sound, bad_kind, bad_byte, bad_count}
use Rattle.paper.specs.Table.{encode}
use Rattle.paper.specs.Verdict.{refused, flawed, bad_length, verdict}
use Rattle.paper.specs.Driver.{done, over}
use Rattle.paper.specs.Answers.{Measured, Compared, weighed, valued, compared, refused_by, ran_answer}
use Rattle.paper.specs.Calls.{answer_numbers, eights, check_answers, weight_returns, weight_answers, value_answers, equal_answers}

abbrev measures : ℕ → ℕ → ℕ → Measured
measures n p r = record { number = n; place = p; flaw = sound; result = r }

abbrev compares : ℕ → ℕ → ℕ → Bool → Compared
compares n p w y = record { number = n; place = p; flaw = sound; which = w; yes = y }

-- a + b; two trees, 1 and 1, where one is due; b^0
abbrev a+b : List ℕ
a+b = encode (sum 0 (cons (symbol 0 0) (cons (symbol 0 1) nil)))

abbrev cut : List ℕ
cut = encode (integer 0 (pos 1)) ++ encode (integer 0 (pos 1))

abbrev b^0 : List ℕ
b^0 = encode (power 0 (symbol 0 1) 0 0)

-- symbol 0 holds 5, symbol 1 holds 256, the others 0
abbrev regs : List ℕ
regs = 5 ∷ replicate 7 0 ++ (0 ∷ 1 ∷ replicate 2038 0)

-- a symbol with bytes 3, 7 and 9 other than zero; a product of one member
abbrev bad_byte_record : List ℕ
bad_byte_record = 1 ∷ 0 ∷ 0 ∷ 1 ∷ 0 ∷ 0 ∷ 0 ∷ 1 ∷ 0 ∷ 1 ∷ replicate 6 0

abbrev bad_count_record : List ℕ
bad_count_record = 3 ∷ 0 ∷ 1 ∷ replicate 13 0

pub record Sayings : Type 0 where
  pub lengths : (bad_length 3072 49152 ≡ false) × (bad_length 3072 49168 ≡ true) × (bad_length 16384 262144 ≡ false)
      × (bad_length 16384 262160 ≡ true) × (register_bytes ≡ 256 * 8)
  pub limits : (is_limit 3072 ≡ true) × (is_limit 16384 ≡ true) × (is_limit 3071 ≡ false) × (is_limit 3073 ≡ false)
      × (is_limit 16383 ≡ false) × (is_limit 16385 ≡ false) × (is_limit 65536 ≡ false) × (is_limit 0 ≡ false)
  pub works : (work_bytes 3072 ≡ 65536) × (work_bytes 16384 ≡ 524288)
  pub limit_first : verdict 3071 [] ≡ refused 19 0
  pub limit_before_tables : compared 16383 [] cut ≡ compares 19 0 0 false
  pub zero_exponent : verdict 3072 b^0 ≡ refused 5 2
  pub weighs : weighed 3072 a+b ≡ measures 0 0 7
  pub weight_refused : weighed 3072 cut ≡ measures 4 1 0
  pub value_is : valued 3072 a+b regs ≡ measures 0 0 261
  pub value_length : valued 3072 a+b (0 ∷ []) ≡ measures 6 0 0
  pub value_table_first : valued 3072 b^0 (0 ∷ []) ≡ measures 5 2 0
  pub equal_first : compared 3072 cut b^0 ≡ compares 4 1 1 false
  pub equal_second : compared 3072 a+b b^0 ≡ compares 5 2 2 false
  pub equal_yes : compared 3072 a+b a+b ≡ compares 0 0 0 true
  pub zeros_and_past : stretch 4 (1 ∷ 2 ∷ []) (9 ∷ 9 ∷ 9 ∷ 9 ∷ 9 ∷ []) ≡ 1 ∷ 2 ∷ 0 ∷ 0 ∷ 9 ∷ []
  pub numbers : answer_numbers (ran_answer 15 (done (symbol 0 0) (2 ∷ 6 ∷ []) 4 9)) ≡ 0 ∷ 0 ∷ 1 ∷ 2 ∷ 4 ∷ 15 ∷ 3 ∷ 0 ∷ 0 ∷ 9 ∷ []
  pub numbers_refused : answer_numbers (ran_answer 15 (over 3)) ≡ 7 ∷ 3 ∷ 0 ∷ 0 ∷ 0 ∷ 0 ∷ 0 ∷ 0 ∷ 0 ∷ 0 ∷ []
  pub slice_short : (weight_returns 3072 a+b (replicate 39 9) ≡ 6) × (weight_answers 3072 a+b (replicate 39 9) ≡ replicate 39 9)
  pub slice : (weight_returns 3072 cut (replicate 41 9) ≡ 4)
      × (weight_answers 3072 a+b (replicate 41 9) ≡ replicate 16 0 ++ (7 ∷ replicate 23 0 ++ (9 ∷ [])))
  -- what is wrong with a record: the kind before a byte, the lowest byte, a byte before the count; the first such record
  pub kind_first : verdict 3072 (5 ∷ 1 ∷ replicate 14 0) ≡ flawed 0 bad_kind
  pub lowest_byte : verdict 3072 bad_byte_record ≡ flawed 0 (bad_byte 3)
  pub byte_before_count : verdict 3072 (2 ∷ 0 ∷ 1 ∷ 0 ∷ 0 ∷ 0 ∷ 9 ∷ replicate 9 0) ≡ flawed 0 (bad_byte 6)
  pub power_byte : verdict 3072 (4 ∷ 0 ∷ 2 ∷ replicate 13 0) ≡ flawed 0 (bad_byte 2)
  pub count_last : verdict 3072 bad_count_record ≡ flawed 0 bad_count
  pub first_record : verdict 3072 (encode (symbol 0 0) ++ (bad_count_record ++ bad_byte_record)) ≡ flawed 1 bad_count
  -- each call passes it on; its numbers come last
  pub check_says : check_answers 3072 bad_byte_record (replicate 32 9) ≡ eights (2 ∷ 0 ∷ 2 ∷ 3 ∷ [])
  pub weight_says : weight_answers 3072 bad_count_record (replicate 40 9) ≡ eights (2 ∷ 0 ∷ 0 ∷ 3 ∷ 0 ∷ [])
  pub value_says : value_answers 3072 bad_byte_record [] (replicate 40 9) ≡ eights (2 ∷ 0 ∷ 0 ∷ 2 ∷ 3 ∷ [])
  pub equal_says : equal_answers 3072 a+b bad_byte_record (replicate 48 9) ≡ eights (2 ∷ 0 ∷ 2 ∷ 0 ∷ 2 ∷ 3 ∷ [])
  pub simplify_says : answer_numbers (refused_by (flawed 4 bad_kind)) ≡ 2 ∷ 4 ∷ 0 ∷ 0 ∷ 0 ∷ 0 ∷ 0 ∷ 1 ∷ 0 ∷ 0 ∷ []
