pub mod IdLists
