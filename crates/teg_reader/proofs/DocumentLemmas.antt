-- What a document says, by how its bytes read.
use Rattle.std.proofs.Common.{◌≡◌, ℕ, Bool, true, false, List, Some, None, Err, IsUtf8}
use Rattle.std.proofs.lemmas.Str.{IsUtf8-from_is_utf8, is_utf8-from_IsUtf8}
use Rattle.std.specs.Str.{is_utf8}
use Rattle.toml.specs.Data.{Members, table}
use Rattle.toml.specs.Parse.{parse_document}
use Rattle.teg_reader.specs.declared.refusals.ReadRefusal.TheVariants.{NotToml}
use Rattle.teg_reader.specs.Documents.{tree_of_bytes, document, tree_document}

no_text : (bytes : List ℕ) (b : Bool) → is_utf8 bytes ≡ b → (IsUtf8 bytes → ⊥) → b ≡ false
no_text bytes true e invalid = absurd (invalid (IsUtf8-from_is_utf8 bytes e))
no_text bytes false e invalid = λ _. false

pub document-no_text : (bytes : List ℕ) → (IsUtf8 bytes → ⊥) → document bytes ≡ Err NotToml
unfolding document tree_of_bytes
document-no_text bytes invalid =
    let e : is_utf8 bytes ≡ false = no_text bytes (is_utf8 bytes) (λ _. is_utf8 bytes) invalid in
    rw e

pub document-read : (bytes text : List ℕ) (ms : Members) → text ≡ bytes → IsUtf8 bytes → parse_document text ≡ Some ms → document bytes ≡ tree_document (table ms)
unfolding document tree_of_bytes
document-read bytes text ms same valid read =
    let e : is_utf8 bytes ≡ true = is_utf8-from_IsUtf8 bytes valid in
    rw (e, ← same, read)

pub document-not_read : (bytes text : List ℕ) → text ≡ bytes → IsUtf8 bytes → parse_document text ≡ None → document bytes ≡ Err NotToml
unfolding document tree_of_bytes
document-not_read bytes text same valid read =
    let e : is_utf8 bytes ≡ true = is_utf8-from_IsUtf8 bytes valid in
    rw (e, ← same, read)

pub tree_read : (text : List ℕ) (ms : Members) → IsUtf8 text → parse_document text ≡ Some ms → tree_of_bytes text ≡ Some ms
unfolding tree_of_bytes
tree_read text ms valid read =
    let e : is_utf8 text ≡ true = is_utf8-from_IsUtf8 text valid in
    rw e read

pub document_of : (bytes : List ℕ) (ms : Members) → tree_of_bytes bytes ≡ Some ms → document bytes ≡ tree_document (table ms)
unfolding document
document_of bytes ms read = rw read
