-- Document 01, "The device": descriptions, the lengths of the arrays, the bench device. Assumes nothing.
use Rattle.std.specs.Prelude.{ℕ, ◌*◌, Bool, true, not, ◌&&◌, ◌||◌, eqb, leb, if◌then◌else◌}
use Rattle.measure.specs.Measures.{even, address}
use Rattle.measure.specs.declared.ProgramAddress.{ProgramAddress}
use Rattle.part.specs.declared.Description.{Description}

-- "page size", "GS pages", "AS pages" and "auxiliary vector" of a description
abbrev pub page_words_of : Description → ℕ
page_words_of d = d.page_words

abbrev pub general_pages_of : Description → ℕ
general_pages_of d = d.general_pages

abbrev pub auxiliary_pages_of : Description → ℕ
auxiliary_pages_of d = d.auxiliary_pages

abbrev pub auxiliary_vector_of : Description → ProgramAddress
auxiliary_vector_of d = d.auxiliary_vector

-- "page size 512 or 1024 words"
abbrev pub good_page : Description → Bool
good_page d = eqb (page_words_of d) 512 || eqb (page_words_of d) 1024

-- "GS pages 1 to 64"
abbrev pub good_general : Description → Bool
good_general d = leb 1 (general_pages_of d) && leb (general_pages_of d) 64

-- "AS pages 0 to 16"
abbrev pub good_auxiliary : Description → Bool
good_auxiliary d = leb (auxiliary_pages_of d) 16

abbrev pub has_auxiliary : Description → Bool
has_auxiliary d = not (eqb (auxiliary_pages_of d) 0)

-- "With AS pages 0 the vector is 0, otherwise it is even and within 0x7FFFC0 to 0x7FFFFE."
abbrev pub good_vector : Description → Bool
good_vector d =
    if has_auxiliary d then (even (auxiliary_vector_of d).0 && leb 0x7FFFC0 (auxiliary_vector_of d).0) && leb (auxiliary_vector_of d).0 0x7FFFFE
    else eqb (auxiliary_vector_of d).0 0

unfoldable pub is_valid : Description → Bool
is_valid d = ((good_page d && good_general d) && good_auxiliary d) && good_vector d

-- "Two lent flash arrays, GS and AS, each exactly pages × page size words."
abbrev pub general_words : Description → ℕ
general_words d = general_pages_of d * page_words_of d

abbrev pub auxiliary_words : Description → ℕ
auxiliary_words d = auxiliary_pages_of d * page_words_of d

abbrev pub is_sized : Description → ℕ → ℕ → Bool
is_sized d general auxiliary = eqb general (general_words d) && eqb auxiliary (auxiliary_words d)

-- "Bench device .. : 512-word pages, 10 GS pages .., 4 AS pages .., keys present, vector 0x7FFFEA."
abbrev pub bench : Description
bench =
    record {
      page_words = 512;
      general_pages = 10;
      auxiliary_pages = 4;
      keys = true;
      auxiliary_vector = address 0x7FFFEA;
    }
