-- The worked images have files.
use Rattle.std.proofs.Common.{◌≡◌, ◌+◌, ℕ, List, [], ◌∷◌, ◌++◌, length, refl, sym, ◌∙◌, ap, arith, length-append}
use Rattle.std.proofs.lemmas.List.{append-nil}
use Rattle.sd_image.specs.Words.{number_bytes, zero_bytes}
use Rattle.sd_image.specs.Header.{header_front, header_text}
use Rattle.sd_image.specs.Table.{table_text}
use Rattle.sd_image.specs.Image.{Image, IsImage}
use Rattle.sd_store_laws.specs.Worked.{file_of, merged, unchanged, whole}

-- the length of a file by the lengths of its parts
file_length : (i : Image) (data_bytes : ℕ) (stored : List ℕ) → length (header_text i.header) ≡ 4095 → length (table_text i.spaces) ≡ 72
    → file_of i ≡ 165 ∷ (header_text i.header ++ stored ++ table_text i.spaces) → length stored ≡ data_bytes → length (file_of i) ≡ 4096 + data_bytes + 72
file_length i data_bytes stored head table is size = grind (arith, length-append)

module _ (bytes : List ℕ) (long : length bytes ≡ 4096) where
  abbrev a : Image
  a = whole 1 1 bytes

  abbrev m : Image
  m = merged 3 1 1 bytes

  a_head : length (header_text a.header) ≡ 4095
  unfolding header_text header_front number_bytes zero_bytes
  a_head = refl

  m_head : length (header_text m.header) ≡ 4095
  unfolding header_text header_front number_bytes zero_bytes
  m_head = refl

  a_table : length (table_text a.spaces) ≡ 72
  unfolding table_text number_bytes zero_bytes
  a_table = refl

  stored_length : length (bytes ++ []) ≡ 4096
  stored_length = ap length (append-nil bytes) ∙ long

  pub a_file : IsImage (file_of a) a
  a_file = record {
    spelled = refl;
    header = record {
      words = record { serial = omega arith; stands_for = omega arith; parent = omega arith; checkpoint = omega arith; pages = omega arith; table_len = omega arith; digest = refl };
      serial = omega arith;
      numbers = (refl, omega arith);
      checkpoint = omega arith;
      fills = sym (file_length a 4096 (bytes ++ []) a_head a_table refl stored_length);
    };
    table = record {
      few = omega arith;
      each = (record { above = omega arith; within = omega arith; few_areas = omega arith; areas = (refl, tt); runs = (refl, tt); covers = refl }, tt);
      «data» = refl;
      mapped = omega arith;
    };
    stored = refl;
    whole = (long, tt);
    digest = λ two. absurd cc;
  }

  pub m_file : IsImage (file_of m) m
  m_file = record {
    spelled = refl;
    header = record {
      words = record { serial = omega arith; stands_for = omega arith; parent = omega arith; checkpoint = omega arith; pages = omega arith; table_len = omega arith; digest = refl };
      serial = omega arith;
      numbers = (omega arith, omega arith, refl);
      checkpoint = omega arith;
      fills = sym (file_length m 4096 (bytes ++ []) m_head a_table refl stored_length);
    };
    table = record {
      few = omega arith;
      each = (record { above = omega arith; within = omega arith; few_areas = omega arith; areas = (refl, tt); runs = (refl, tt); covers = refl }, tt);
      «data» = refl;
      mapped = omega arith;
    };
    stored = refl;
    whole = (long, tt);
    digest = λ two. absurd cc;
  }

abbrev b : Image
b = unchanged 2 1 2

b_head : length (header_text b.header) ≡ 4095
unfolding header_text header_front number_bytes zero_bytes
b_head = refl

b_table : length (table_text b.spaces) ≡ 72
unfolding table_text number_bytes zero_bytes
b_table = refl

pub b_file : IsImage (file_of b) b
b_file = record {
  spelled = refl;
  header = record {
    words = record { serial = omega arith; stands_for = omega arith; parent = omega arith; checkpoint = omega arith; pages = omega arith; table_len = omega arith; digest = refl };
    serial = omega arith;
    numbers = (refl, omega arith);
    checkpoint = omega arith;
    fills = sym (file_length b 0 [] b_head b_table refl refl);
  };
  table = record {
    few = omega arith;
    each = (record { above = omega arith; within = omega arith; few_areas = omega arith; areas = (refl, tt); runs = (refl, tt); covers = refl }, tt);
    «data» = refl;
    mapped = omega arith;
  };
  stored = refl;
  whole = tt;
  digest = λ two. absurd cc;
}
