use Rattle.std.proofs.Common.{◌≡◌, ◌≤◌, ℕ, false, Some, string_bytes, sym, subst, ◌∙◌}
use Rattle.std.proofs.lemmas.Str.{IsUtf8-string_bytes}
use Rattle.std.specs.Global.{Vec}
use Rattle.toml.specs.Data.{Members, members_depth}
use Rattle.toml.specs.Parse.{parse_document}
use Rattle.toml.specs.Text.{IsDocumentText}
use Rattle.toml.specs.View.{table_view}
use Rattle.teg_reader.specs.Documents.{tree_of_bytes}
use Rattle.teg_reader.specs.Layouts.{IsLaidOut}
use Rattle.teg_reader.specs.Migrated.{migrated}
use Rattle.teg_reader.proofs.DocumentLemmas.{tree_read, document_of}
use Rattle.teg_reader.proofs.WrittenLemmas.{net_depth}
use Rattle.teg_reader.proofs.MigratedNets.{net_written}
use Rattle.teg_reader.proofs.writer.write_net.Goals as goal

pub returns-in-Ok-clause-layout : goal.returns-in-Ok-clause-layout
returns-in-Ok-clause-layout c =
    let written : IsLaidOut c.args.net.now (string_bytes c.in-Ok.text) =
    subst (λ (ms : Members). IsDocumentText false ms (string_bytes c.in-Ok.text)) c.in_ok-table.ensures.table c.in-Ok.ensures.text in
    subst (λ (v : Vec ℕ). IsLaidOut c.args.net.now v.items) (sym c.into_bytes.ensures.value) written

pub returns-in-Ok-clause-read_back : goal.returns-in-Ok-clause-read_back
returns-in-Ok-clause-read_back c =
    let shallow : members_depth (table_view c.in_ok-table.table) ≤ 80 = rw c.in_ok-table.ensures.table (net_depth c.args.net.now) in
    let read : parse_document (string_bytes c.in-Ok.text) ≡ Some (migrated c.args.net.now) = rw (← c.in_ok-table.ensures.table) (c.in-Ok.ensures.reads_back shallow) in
    rw c.into_bytes.ensures.value (tree_read (string_bytes c.in-Ok.text) (migrated c.args.net.now) (IsUtf8-string_bytes c.in-Ok.text) read)

pub returns-in-Ok-clause-document : goal.returns-in-Ok-clause-document
returns-in-Ok-clause-document c =
    let shallow : members_depth (table_view c.in_ok-table.table) ≤ 80 = rw c.in_ok-table.ensures.table (net_depth c.args.net.now) in
    let read : parse_document (string_bytes c.in-Ok.text) ≡ Some (migrated c.args.net.now) = rw (← c.in_ok-table.ensures.table) (c.in-Ok.ensures.reads_back shallow) in
    let tree : tree_of_bytes (string_bytes c.in-Ok.text) ≡ Some (migrated c.args.net.now) = tree_read (string_bytes c.in-Ok.text) (migrated c.args.net.now) (IsUtf8-string_bytes c.in-Ok.text) read in
    rw c.into_bytes.ensures.value (document_of (string_bytes c.in-Ok.text) (migrated c.args.net.now) tree ∙ net_written c.args.net.now c.in_ok-table.ensures.rules)
