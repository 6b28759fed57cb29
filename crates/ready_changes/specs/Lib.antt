pub mod ReadyChanges
