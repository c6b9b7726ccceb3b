pub mod Mails
pub mod Posts
