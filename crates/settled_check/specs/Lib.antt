pub mod ShownForms
